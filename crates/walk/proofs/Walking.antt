-- State after state expanded: the loop of the walk, said of lists. Assumes nothing.
use mathlib.Core.Path.{◌≡◌, refl, sym, ap, ◌∙◌}
use mathlib.Core.List.{List, []}
use Prim.Native.Nat.{ℕ, suc, ◌+◌, ◌*◌, ◌≤◌, ◌<◌}
use native.Mathlib.Numerals.{add-one}
use native.Mathlib.Omega.{arith}
use lib.ListN.{length, get_or}
use Rattle.paper.specs.Lists.{joined, in_front}
use Rattle.paper.specs.Chart.{letters}
use Rattle.paper.specs.Tables.{two_bytes, row_size}
use Rattle.paper.specs.Constructions.{next_bytes, row_of, state_row, table_of}
use Rattle.lists.proofs.ByPlace.{length_joined, joined_cong}
use Rattle.lists.proofs.Lent.{in_front_none}
use Rattle.numbering.proofs.ListLaws.{extends_length}
use Rattle.numbering.proofs.Kept.{expanded_extends}
use Rattle.numbering.proofs.Rest.{rest, rest_end, rest_next, rest_over, rest_place, rest_value}
use Rattle.numbering.proofs.TableBytes.{length_row}
use Rattle.places.specs.Search.{place_at}
use Rattle.places.proofs.Search.{length_values, values_at}
use Rattle.kinds.specs.Kinds.{made}
use Rattle.places.specs.Memory.{Apart}
use Rattle.marks.specs.declared.chains.Index.{Index}
use Rattle.search.specs.Kept.{kept_in, Holds}
use Rattle.nexts.specs.Taken.{grown, found_bytes, nexts_for, row_for, row_in, Taken}
use Rattle.walk.specs.Walked.{walked, WalkAsks, Walked}
use Rattle.places.specs.Memory.{spliced}
use Rattle.kinds.specs.declared.plan.Plan.{Plan}
use Rattle.places.proofs.Memory.{in_front_splice, apart_refl, apart_trans}

-- the states below i expanded, with `held` states kept in `new`
pub record WalkTo (p : Plan) (table₀ table old new : List ℕ) (index : Index) (held i : ℕ) : Type 0 where
  pub below : i ≤ held
  pub roomy : held ≤ p.room
  pub table_long : length table ≡ length table₀
  pub listed : rest (made p).key (made p).step (letters p.chart.now) p.room i (kept_in p held new) ≡ walked p old
  pub holds : Holds p new index held
  pub apart : Apart p.stride p.width (suc p.room) old new
  pub table_is : table ≡ in_front (joined i (state_row (made p) (letters p.chart.now) (walked p old))) table₀

module _ (p : Plan) (table₀ old : List ℕ) where
  -- all states
  abbrev all : List (List ℕ)
  all = walked p old

  pub walk_none : (index : Index) → WalkAsks p table₀ old index → WalkTo p table₀ table₀ old old index 1 0
  unfolding joined
  walk_none index a =
      record {
        below = omega arith;
        roomy = p.sized.room_low;
        table_long = refl;
        listed = refl;
        holds = a.holds;
        apart = apart_refl _ _ _ _;
        table_is = in_front_none table₀;
      }

  length_done : (i : ℕ) → length (joined i (state_row (made p) (letters p.chart.now) all)) ≡ i * row_size (letters p.chart.now)
  unfolding state_row
  length_done i = length_joined i (row_size (letters p.chart.now)) _ (λ s h. length_row (made p) (letters p.chart.now) all (get_or all s []))

  module _ {table new : List ℕ} {index : Index} {held i : ℕ} (so : WalkTo p table₀ table old new index held i) where
    module _ (h : i < held) where
      -- the value of state i
      abbrev v : List ℕ
      v = place_at p.stride p.width new i

      inside : i < length (kept_in p held new)
      inside = rw length_values h

      few : length (kept_in p held new) ≤ p.room
      few = rw length_values so.roomy

      state_i : get_or (kept_in p held new) i [] ≡ v
      state_i = values_at p.stride p.width held new i h

      goes_on : rest (made p).key (made p).step (letters p.chart.now) p.room (suc i) (grown p held v new) ≡ all
      goes_on = rw (← state_i) (sym (rest_next (made p).key (made p).step (letters p.chart.now) p.room i (kept_in p held new) inside few) ∙ so.listed)

      pub walk_full : p.room < length (grown p held v new) → p.room < length all
      walk_full r =
          rw (← so.listed)
          (rest_over (made p).key (made p).step (letters p.chart.now) p.room i (kept_in p held new) inside few (letters p.chart.now) (omega arith) (rw state_i r))

      -- letter x's next state is its place in the end
      next_stays : (x : ℕ) → x < letters p.chart.now → found_bytes (made p) (kept_in p held new) v x ≡ next_bytes (made p) all v x
      unfolding found_bytes next_bytes
      next_stays x l =
          ap two_bytes
          (sym
          (rw (state_i, so.listed)
          at (rest_place (made p).key (made p).step (letters p.chart.now) p.room i (kept_in p held new) inside few x l)))

      -- state i's row is the same in the end
      row_stays : row_in p held v new ≡ state_row (made p) (letters p.chart.now) all i
      unfolding row_for nexts_for state_row row_of
      row_stays =
          let q : get_or all i [] ≡ v =
          (rw so.listed at (rest_value (made p).key (made p).step (letters p.chart.now) p.room i (kept_in p held new) inside few)) ∙ state_i in
          rw (q, joined_cong (letters p.chart.now) (found_bytes (made p) (kept_in p held new) v) (next_bytes (made p) all v) next_stays)

      pub walk_more : {table' new' : List ℕ} {index' : Index} {more : ℕ} →
          Taken p held v (spliced (i * row_size (letters p.chart.now)) (row_in p held v new) table) table' new new' index' more → length table' ≡ length table →
          WalkTo p table₀ table' old new' index' more (i + 1)
      unfolding joined
      walk_more {table'} {new'} {index'} {more} d lt =
          record {
            below =
                omega (
                  arith,
                  length_values p.stride p.width more new',
                  ap length d.listed,
                  extends_length (expanded_extends (made p).key (made p).step v (kept_in p held new) (letters p.chart.now)),
                  length_values p.stride p.width held new,
                );
            roomy = d.roomy;
            table_long = lt ∙ so.table_long;
            listed = rw (add-one, d.listed) goes_on;
            holds = d.holds;
            apart = apart_trans so.apart d.apart;
            table_is = rw add-one (d.row_is ∙ in_front_splice _ table₀ _ table (i * row_size (letters p.chart.now)) so.table_is (length_done i) ∙ rw row_stays);
          }

    pub walk_all : held ≤ i → Walked p table₀ table old new held
    unfolding table_of
    walk_all h =
        let e : kept_in p held new ≡ all =
        sym (rest_end (made p).key (made p).step (letters p.chart.now) p.room i (kept_in p held new) (rw length_values h)) ∙ so.listed in
        let n : i ≡ length all = omega (arith, so.below, ap length e, length_values p.stride p.width held new) in
        record {
          roomy = so.roomy;
          listed = e;
          apart = so.apart;
          table_is = so.table_is ∙ ap (λ k. in_front (joined k (state_row (made p) (letters p.chart.now) all)) table₀) n;
        }
