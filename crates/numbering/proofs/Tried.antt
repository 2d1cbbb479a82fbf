-- Words listed while one word is expanded: they rise, their keys differ, and each word tried has the key of a listed word up to it.
-- Assumes nothing.
use mathlib.Core.Path.{◌≡◌, ap}
use mathlib.Core.Logic.{inl, inr}
use mathlib.Core.List.{List, [], ◌∷◌, ◌++◌}
use Prim.Native.Nat.{ℕ, zero, suc, ◌≤◌, ◌<◌}
use native.Mathlib.Omega.{arith}
use native.Mathlib.Nat.{not-suc-le-zero}
use lib.ListN.{length, get_or, length-append}
use lib.Seq.{get_or-append_seam}
use Rattle.paper.specs.Words.{Word, Before, UpTo}
use Rattle.paper.specs.Numbering.{place, kept, expanded}
use Rattle.lists.proofs.Tests.{below_suc}
use Rattle.numbering.proofs.Words.{with, word_with}
use Rattle.numbering.proofs.Order.{before_last, before_from}
use Rattle.numbering.proofs.ListLaws.{Each, Pairs, Extends, each_snoc, pairs_snoc, extends_refl, extends_snoc, extends_trans, extends_get_or, extends_length}
use Rattle.numbering.proofs.Place.{place_key, place_none}
use Rattle.numbering.proofs.Kept.{kept_case}

-- a listed word up to u has u's key
pub record Covered (k : List ℕ → List ℕ) (ws : List (List ℕ)) (u : List ℕ) : Type 0 where
  pub at : ℕ
  pub below : at < length ws
  pub upto : UpTo (get_or ws at []) u
  pub same : k (get_or ws at []) ≡ k u

-- words of m letters in rising order, their keys pairwise different
pub record Rising (k : List ℕ → List ℕ) (m : ℕ) (ws : List (List ℕ)) : Type 0 where
  pub rises : Pairs Before ws
  pub apart : Pairs (λ v w. k v ≡ k w → ⊥) ws
  pub words : Each (Word m) ws

-- the same, where word p has been tried with the letters below x; `start` was listed before
pub record Tried (k : List ℕ → List ℕ) (m : ℕ) (start : List (List ℕ)) (p : List ℕ) (x : ℕ) (ws : List (List ℕ)) : Type 0 where
  pub good : Rising k m ws
  pub here : Each (λ w. Before w (with x p)) ws
  pub more : Extends start ws
  pub done : (y : ℕ) → y < x → Covered k ws (with y p)

module _ (k : List ℕ → List ℕ) where
  -- what is covered stays covered
  pub covered_more : {ws us : List (List ℕ)} (u : List ℕ) → Extends ws us → Covered k ws u → Covered k us u
  covered_more u a c =
      record {
        at = c.at;
        below = omega (arith, extends_length a, c.below);
        upto = rw (extends_get_or a c.at c.below) c.upto;
        same = rw (extends_get_or a c.at c.below) c.same;
      }

  module _ (m : ℕ) (start : List (List ℕ)) (p : List ℕ) (word : Word m p) where
    -- one letter more is tried
    tried_step : (x : ℕ) (ws : List (List ℕ)) → x < m → Tried k m start p x ws → Tried k m start p (suc x) (kept k ws (with x p))
    tried_step x ws l c = kept_case k (λ us. Tried k m start p (suc x) us) ws (with x p) old new
      where
        here_more : Each (λ w. Before w (with (suc x) p)) ws
        here_more i b = before_from (get_or ws i []) p x (suc x) (c.here i b) (omega arith)

        done_more : (us : List (List ℕ)) → Extends ws us → Covered k us (with x p) → (y : ℕ) → y < suc x → Covered k us (with y p)
        done_more us a q = below_suc {P = λ y. Covered k us (with y p)} x (λ y h. covered_more (with y p) a (c.done y h)) q

        old : place k ws (with x p) < length ws → Tried k m start p (suc x) ws
        old h =
            record {
              good = c.good;
              here = here_more;
              more = c.more;
              done =
                  done_more
                  ws
                  extends_refl
                  (record { at = place k ws (with x p); below = h; upto = inr (c.here _ h); same = place_key k ws (with x p) h });
            }

        new : place k ws (with x p) ≡ length ws → Tried k m start p (suc x) (ws ++ (with x p ∷ []))
        new h =
            record {
              good =
                  record {
                    rises = pairs_snoc Before ws (with x p) c.good.rises c.here;
                    apart = pairs_snoc (λ v w. k v ≡ k w → ⊥) ws (with x p) c.good.apart (place_none k ws (with x p) h);
                    words = each_snoc (Word m) ws (with x p) c.good.words (word_with m p x word l);
                  };
              here = each_snoc (λ u. Before u (with (suc x) p)) ws (with x p) here_more (before_last p x (suc x) (omega arith));
              more = extends_trans c.more (extends_snoc (with x p));
              done =
                  done_more
                  (ws ++ (with x p ∷ []))
                  (extends_snoc (with x p))
                  (record {
                    at = length ws;
                    below = simp length-append (omega arith);
                    upto = inl (get_or-append_seam ws (with x p) [] []);
                    same = ap k (get_or-append_seam ws (with x p) [] []);
                  });
            }

    -- the letters below x are tried
    pub expanded_tried : Rising k m start → Each (λ w. Before w (with 0 p)) start → (x : ℕ) → x ≤ m → Tried k m start p x (expanded k with x p start)
    unfolding expanded
    expanded_tried r h zero l = record { good = r; here = h; more = extends_refl; done = λ y g. absurd (not-suc-le-zero g) }
    expanded_tried r h (suc x) l = tried_step x (expanded k with x p start) l (expanded_tried r h x (omega arith))
