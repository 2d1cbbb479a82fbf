-- A candidate settled, said of the list of kept values. Assumes nothing.
use mathlib.Core.Path.{◌≡◌, sym, ap₂, subst, ◌∙◌}
use mathlib.Core.List.{List, [], ◌∷◌, ◌++◌}
use Prim.Native.Nat.{ℕ, suc, ◌+◌, ◌-◌, ◌*◌, ◌≤◌, ◌<◌}
use native.Mathlib.Omega.{arith}
use lib.ListN.{length, take, drop}
use borrow.Rule.Slice.PartMut.{put_mid}
use Rattle.paper.specs.Lists.{in_front}
use Rattle.paper.specs.Chart.{k_of, letters}
use Rattle.paper.specs.Numbering.{place}
use Rattle.numbering.proofs.Place.{place_le}
use Rattle.numbering.proofs.Kept.{kept_new, kept_old}
use Rattle.places.specs.Search.{place_at, place_for}
use Rattle.std.specs.Prelude.{Option, Some, None}
use Rattle.places.proofs.Search.{length_values, answer_none, answer_at}
use Rattle.kinds.specs.Kinds.{made}
use Rattle.kinds.specs.Ready.{Value}
use Rattle.places.specs.Memory.{spliced, Apart}
use Rattle.marks.specs.declared.chains.Index.{Index}
use Rattle.search.specs.Kept.{kept_in, Holds, held_with, Sought}
use Rattle.settle.specs.Settles.{Settles, Asks}
use Rattle.kinds.specs.declared.plan.Plan.{Plan}
use Rattle.places.proofs.Memory.{lent_from, values_more, place_here, place_before, values_before, apart_spliced}
use Rattle.kinds.proofs.KindLaws.{made_step}
use Rattle.search.proofs.Found.{place_inside}

-- letter x's candidate written in place `held`, lent from there on
module _ (p : Plan) (x : ℕ) (v old : List ℕ) (index : Index) (q : List ℕ) (held : ℕ) (lx : x < letters p.chart.now) (a : Asks p held v old index)
    (wrote : q ≡ in_front ((made p).step x v) (take (length old - held * p.stride) (drop (held * p.stride) old))) where
  abbrev new : List ℕ
  new = put_mid (held * p.stride) (length old - held * p.stride) old q

  value : Value (k_of p.chart.now) p.width ((made p).step x v)
  value = made_step p a.ready x lx v a.value

  inside : p.width ≤ p.stride
  inside = p.sized.inside

  within : held * p.stride + p.width ≤ length old
  within = omega (arith, place_inside a.holds.valued held a.roomy, inside)

  whole : new ≡ spliced (held * p.stride) ((made p).step x v) old
  whole = lent_from (held * p.stride) ((made p).step x v) old q (rw value.long within) wrote

  here : place_at p.stride p.width new held ≡ (made p).step x v
  here = rw whole (place_here p.stride p.width held ((made p).step x v) old value.long inside (omega (arith, within)))

  before : (s : ℕ) → s < held → place_at p.stride p.width new s ≡ place_at p.stride p.width old s
  before s l = rw whole (place_before p.stride p.width held ((made p).step x v) old value.long inside within s l)

  listed : kept_in p held new ≡ kept_in p held old
  listed = rw whole (values_before p.stride p.width held ((made p).step x v) old value.long inside within)

  apart : Apart p.stride p.width (suc p.room) old new
  apart = rw whole (apart_spliced p.stride p.width held ((made p).step x v) old value.long inside within (suc p.room) (omega (arith, a.roomy)))

  -- the kept places still hold what they held
  pub still_holds : Holds p new index held
  still_holds =
      record {
        valued =
            record {
              fits = rw apart.long a.holds.valued.fits;
              values = λ s l. rw (before s l) (a.holds.valued.values s l);
              marked = λ s l. rw (before s l) (a.holds.valued.marked s l);
            };
        chained = a.holds.chained;
      }

  -- and the candidate is a value
  pub new_value : Value (k_of p.chart.now) p.width (place_at p.stride p.width new held)
  new_value = rw here value

  module _ (index' : Index) (found : Option ℕ) (s : Sought p new index' held found) where
    seen : found ≡ place_for held (place (made p).key (kept_in p held old) ((made p).step x v))
    seen = s.answer ∙ rw (here, listed)

    none_past : place (made p).key (kept_in p held old) ((made p).step x v) ≤ held
    none_past = rw (length_values p.stride p.width held old) at (place_le (made p).key (kept_in p held old) ((made p).step x v))

    holds_with : (f : Option ℕ) → found ≡ f → Holds p new index' (held_with held f)
    holds_with f e = subst (λ (g : Option ℕ). Holds p new index' (held_with held g)) e s.holds

    pub settled_new : found ≡ None → Settles p x v old new index' held held (held + 1)
    settled_new e =
        let n : place (made p).key (kept_in p held old) ((made p).step x v) ≡ held = omega (arith, answer_none held _ (sym seen ∙ e), none_past) in
        record {
          place_is = sym n;
          kept_is =
              values_more p.stride p.width held new
              ∙ ap₂ (λ (vs : List (List ℕ)) (u : List ℕ). vs ++ (u ∷ [])) listed here
              ∙ sym (kept_new (made p).key (kept_in p held old) ((made p).step x v) (n ∙ sym (length_values p.stride p.width held old)));
          holds = holds_with None e;
          apart = apart;
        }

    pub settled_old : (j : ℕ) → found ≡ Some j → Settles p x v old new index' held j held
    settled_old j e =
        let n = answer_at held _ j (sym seen ∙ e) in
        record {
          place_is = sym n.1;
          kept_is = listed ∙ sym (kept_old (made p).key (kept_in p held old) ((made p).step x v) (rw (length_values p.stride p.width held old) n.0));
          holds = holds_with (Some j) e;
          apart = apart;
        }
