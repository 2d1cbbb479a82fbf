-- The letters of one state, taken one after the other. Assumes nothing.
use mathlib.Core.Path.{◌≡◌, refl, sym, ap, ◌∙◌}
use mathlib.Core.List.{List}
use Prim.Native.Nat.{ℕ, suc, ◌+◌, ◌*◌, ◌≤◌, ◌<◌}
use native.Mathlib.Numerals.{add-one}
use native.Mathlib.Omega.{arith}
use lib.ListN.{length}
use Rattle.paper.specs.Lists.{joined, in_front}
use Rattle.paper.specs.Chart.{letters}
use Rattle.paper.specs.Tables.{two_bytes, row_size}
use Rattle.paper.specs.Numbering.{place, expanded}
use Rattle.paper.specs.Constructions.{Construction}
use Rattle.lists.proofs.ByPlace.{length_joined}
use Rattle.lists.proofs.Lent.{in_front_none}
use Rattle.numbering.proofs.ListLaws.{extends_length}
use Rattle.numbering.proofs.Kept.{expanded_suc, expanded_more}
use Rattle.places.proofs.Search.{length_values}
use Rattle.kinds.specs.Kinds.{made}
use Rattle.places.specs.Memory.{spliced, Apart}
use Rattle.marks.specs.declared.chains.Index.{Index}
use Rattle.search.specs.Kept.{kept_in, Holds}
use Rattle.settle.specs.Settles.{Settles, Asks}
use Rattle.nexts.specs.Taken.{grown, found_bytes, nexts_for, row_for, Taken}
use Rattle.kinds.specs.declared.plan.Plan.{Plan}
use Rattle.places.proofs.Memory.{in_front_splice, apart_refl, apart_trans}

length_found : (b : Construction) (vs : List (List ℕ)) (v : List ℕ) (x : ℕ) → length (found_bytes b vs v x) ≡ 2
unfolding found_bytes two_bytes
length_found b vs v x = refl

-- the bytes of x next states are 2 x
pub length_pairs : (b : Construction) (vs : List (List ℕ)) (v : List ℕ) (x : ℕ) → length (joined x (found_bytes b vs v)) ≡ 2 * x
length_pairs b vs v x = omega (arith, length_joined x 2 (found_bytes b vs v) (λ y l. length_found b vs v y))

pub length_row_for : (b : Construction) (m : ℕ) (vs : List (List ℕ)) (v : List ℕ) → length (row_for b m vs v) ≡ row_size m
unfolding row_for nexts_for
length_row_for b m vs v = omega (arith, length_pairs b vs v m)

-- ---- the letters

-- the letters below x taken, with `held` states kept in `new`, from `first` in `old`
pub record NextsTo (p : Plan) (first : ℕ) (v row₀ row old new : List ℕ) (index : Index) (held x : ℕ) : Type 0 where
  pub roomy : held ≤ p.room
  pub listed : kept_in p held new ≡ expanded (made p).key (made p).step x v (kept_in p first old)
  pub holds : Holds p new index held
  pub apart : Apart p.stride p.width (suc p.room) old new
  pub row_is : row ≡ in_front (joined x (found_bytes (made p) (kept_in p first old) v)) row₀

module _ (p : Plan) (first : ℕ) (v row₀ old : List ℕ) where
  pub nexts_none : (index : Index) → Asks p first v old index → NextsTo p first v row₀ row₀ old old index first 0
  unfolding expanded joined
  nexts_none index a =
      record { roomy = a.roomy; listed = refl; holds = a.holds; apart = apart_refl _ _ _ _; row_is = in_front_none row₀ }

  module _ {row new : List ℕ} {index : Index} {held x : ℕ} (so : NextsTo p first v row₀ row old new index held x) where
    module _ {new' : List ℕ} {index' : Index} {at more : ℕ} (h : x < letters p.chart.now) (s : Settles p x v new new' index' held at more) where
      -- the list with letter x's value kept
      listed_more : kept_in p more new' ≡ expanded (made p).key (made p).step (suc x) v (kept_in p first old)
      listed_more = s.kept_is ∙ rw so.listed (sym (expanded_suc (made p).key (made p).step v (kept_in p first old) x))

      pair_is : two_bytes at ≡ found_bytes (made p) (kept_in p first old) v x
      unfolding found_bytes
      pair_is = ap two_bytes (s.place_is ∙ ap (λ (vs : List (List ℕ)). place (made p).key vs ((made p).step x v)) so.listed)

      -- the states that are kept are all listed in the end
      pub nexts_full : p.room < more → p.room < length (grown p first v old)
      nexts_full r =
          omega (
            arith,
            ap length listed_more,
            length_values p.stride p.width more new',
            extends_length (expanded_more (made p).key (made p).step v (kept_in p first old) (suc x) (letters p.chart.now) h),
          )

      pub nexts_more : more ≤ p.room → {row' : List ℕ} → row' ≡ spliced (2 * x) (two_bytes at) row →
          NextsTo p first v row₀ row' old new' index' more (x + 1)
      unfolding joined
      nexts_more r w =
          record {
            roomy = r;
            listed = rw add-one listed_more;
            holds = s.holds;
            apart = apart_trans so.apart s.apart;
            row_is = rw add-one (w ∙ in_front_splice _ row₀ (two_bytes at) row (2 * x) so.row_is (length_pairs _ _ v x) ∙ rw pair_is);
          }

    pub nexts_all : x ≡ letters p.chart.now → Taken p first v (in_front (nexts_for (made p) (letters p.chart.now) (kept_in p first old) v) row₀) row old new index held
    unfolding nexts_for
    nexts_all e = record { roomy = so.roomy; listed = so.listed ∙ ap (λ y. expanded (made p).key (made p).step y v (kept_in p first old)) e; holds = so.holds; apart = so.apart; row_is = so.row_is ∙ ap (λ y. in_front (joined y (found_bytes (made p) (kept_in p first old) v)) row₀) e }
