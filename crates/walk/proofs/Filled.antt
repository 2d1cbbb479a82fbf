-- A whole construction: the first value, the walk from it, and zeros in the places after the kept ones. Assumes nothing.
use mathlib.Core.Path.{◌≡◌, sym, ap, ap₂, ◌∙◌}
use mathlib.Core.List.{List, [], append_assoc}
use Prim.Native.Nat.{ℕ, suc, ◌+◌, ◌-◌, ◌*◌, ◌≤◌, ◌<◌}
use native.Mathlib.Nat.{zero-add, zero-mul, suc-mul, mul_comm, mul-sub, mul-le-mul_right}
use native.Mathlib.Numerals.{add-one}
use native.Mathlib.Omega.{arith}
use native.Mathlib.Decide.{dec_lt}
use lib.ListN.{length, get_or, take, drop, replicate, length-take, length-drop}
use lib.Seq.{drop-drop, ext_get_or}
use borrow.Rule.Slice.PartMut.{put_mid, mid_of}
use Rattle.paper.specs.Lists.{tabulate, joined, part, in_front, zeros}
use Rattle.paper.specs.Chart.{k_of, letters}
use Rattle.paper.specs.Constructions.{states_of, table_of}
use Rattle.paper.specs.Builders.{place_of, placed}
use Rattle.lists.proofs.ByPlace.{joined_cong, length_part, get_or_part}
use Rattle.lists.proofs.Lent.{length_in_front, get_or_in_front, get_or_behind}
use Rattle.numbering.proofs.Rest.{rest_start}
use Rattle.places.specs.Search.{place_at, values}
use Rattle.places.proofs.Search.{length_values, values_at}
use Rattle.kinds.specs.Kinds.{made}
use Rattle.kinds.specs.Ready.{Value}
use Rattle.places.specs.Memory.{spliced, Apart}
use Rattle.marks.specs.declared.chains.Index.{Index}
use Rattle.marks.specs.Chains.{Chained}
use Rattle.search.specs.Kept.{kept_in, Holds}
use Rattle.walk.specs.Walked.{walked, Walked, GrowAsks, states_by, Made}
use Rattle.kinds.specs.declared.plan.Plan.{Plan}
use Rattle.places.proofs.Memory.{joined_part, length_place, place_byte, place_here, apart_spliced, apart_trans}
use Rattle.kinds.proofs.KindLaws.{made_first}

-- ---- kept values in their places

module _ (stride w h room : ℕ) (vs : List (List ℕ)) (old buf : List ℕ) (inside : w ≤ stride) (listed : values stride w h buf ≡ vs) (apart : Apart stride w (suc room) old buf)
    (few : h ≤ room) (fits : suc room * stride ≤ length buf) where
  count : length vs ≡ h
  count = rw (← listed) (length_values stride w h buf)

  value_at : (s : ℕ) → s < h → get_or vs s [] ≡ place_at stride w buf s
  value_at s l = rw (← listed) (values_at stride w h buf s l)

  within : (s : ℕ) → s < h → suc s * stride ≤ length buf
  within s l =
      let m : suc s * stride ≤ suc room * stride = mul-le-mul_right stride (omega arith) in
      omega arith

  -- a place holds its value first, and the rest as at entry
  place_is : (s : ℕ) → s < h → part stride s buf ≡ place_of stride vs old s
  unfolding place_of
  place_is s l =
      let lb : length (part stride s buf) ≡ stride = length_part stride s buf (within s l) in
      let lo : length (part stride s old) ≡ stride = length_part stride s old (rw (← apart.long) (within s l)) in
      let lv : length (get_or vs s []) ≡ w = rw (value_at s l) (length_place stride w buf s (omega (arith, within s l, suc-mul s stride))) in
      let fit : length (get_or vs s []) ≤ length (part stride s old) = omega arith in
      ext_get_or 0 (part stride s buf) (in_front (get_or vs s []) (part stride s old)) (lb ∙ sym (length_in_front (get_or vs s []) (part stride s old) fit ∙ lo))
      (λ j b. byte lv j (rw lb at b) (dec_lt j w))
    where
      byte : length (get_or vs s []) ≡ w → (j : ℕ) → j < stride → Dec (j < w) → get_or (part stride s buf) j 0 ≡ get_or (in_front (get_or vs s []) (part stride s old)) j 0
      byte lv j b (yes d) =
          get_or_part stride s buf 0 j b
          ∙ sym (place_byte stride w buf s j d)
          ∙ ap (λ y. get_or y j 0) (sym (value_at s l))
          ∙ sym (get_or_in_front (get_or vs s []) (part stride s old) j (omega arith))
      byte lv j b (no d) =
          get_or_part stride s buf 0 j b
          ∙ apart.rest s j (omega arith) b
          ∙ sym (get_or_behind (get_or vs s []) (part stride s old) j (omega arith) ∙ get_or_part stride s old 0 j b)

  front : take (h * stride) buf ≡ joined (length vs) (place_of stride vs old)
  front =
      sym (joined_part stride h buf)
      ∙ joined_cong h (λ s. part stride s buf) (place_of stride vs old) place_is
      ∙ ap (λ k. joined k (place_of stride vs old)) (sym count)

  -- the places behind the kept ones zeroed, from a part that was lent
  pub zeroed : (z : List ℕ) → z ≡ zeros (mid_of (h * stride) ((room + 1) * stride - h * stride) buf) →
      put_mid (h * stride) ((room + 1) * stride - h * stride) buf z ≡ placed stride (suc room) vs old
  unfolding placed
  zeroed z q =
      let m : h * stride ≤ suc room * stride = mul-le-mul_right stride (omega arith) in
      let s : (suc room - h) * stride ≡ suc room * stride - h * stride =
      mul_comm (suc room - h) stride ∙ mul-sub stride (suc room) h ∙ ap₂ ◌-◌ (mul_comm stride (suc room)) (mul_comm stride h) in
      let t : length (mid_of (h * stride) ((room + 1) * stride - h * stride) buf) ≡ suc room * stride - h * stride =
      rw add-one (simp (length-take, length-drop) (omega arith)) in
      let b : z ≡ replicate ((suc room - length vs) * stride) 0 = q ∙ rw (count, s, t) in
      let f : drop (suc room * stride - h * stride) (drop (h * stride) buf) ≡ drop (suc room * stride) old =
      let g : h * stride + (suc room * stride - h * stride) ≡ suc room * stride = omega arith in
      rw (drop-drop, g) apart.past in
      rw (add-one, front, b, f, ← append_assoc)

-- ---- the first value in place 0

front_spliced : (stride : ℕ) (new old : List ℕ) → in_front new old ≡ spliced (0 * stride) new old
unfolding in_front spliced
front_spliced stride new old = rw (zero-mul, zero-add)

module _ (p : Plan) (table old first : List ℕ) (a : GrowAsks p table old) (wrote : first ≡ in_front (made p).first old) where
  value : Value (k_of p.chart.now) p.width (made p).first
  value = made_first p a.ready

  inside : p.width ≤ p.stride
  inside = p.sized.inside

  whole : first ≡ spliced (0 * p.stride) (made p).first old
  whole = wrote ∙ front_spliced p.stride (made p).first old

  roomy : 0 * p.stride + p.width ≤ length old
  roomy = omega (arith, zero-mul p.stride, suc-mul p.room p.stride, a.fits, inside)

  begun : Apart p.stride p.width (suc p.room) old first
  begun = rw whole (apart_spliced p.stride p.width 0 (made p).first old value.long inside roomy (suc p.room) (omega arith))

  here : place_at p.stride p.width first 0 ≡ (made p).first
  here = rw whole (place_here p.stride p.width 0 (made p).first old value.long inside (omega (arith, zero-mul p.stride)))

  pub first_value : Value (k_of p.chart.now) p.width (place_at p.stride p.width first 0)
  first_value = rw here value

  -- no place is held
  pub none_held : {index : Index} → Chained index 0 → Holds p first index 0
  none_held k =
      record {
        valued = record { fits = rw begun.long a.fits; values = λ s b. absurd (omega arith); marked = λ s b. absurd (omega arith) };
        chained = k;
      }

  -- the walk from it lists the construction's states
  walk_states : walked p first ≡ states_by p
  unfolding values tabulate states_of
  walk_states = rw here (rest_start (made p).key (made p).step (letters p.chart.now) p.room (made p).first)

  pub made_full : p.room < length (walked p first) → p.room < length (states_by p)
  made_full b = rw walk_states at b

  module _ (table' new : List ℕ) (h : ℕ) (done : Walked p table table' first new h) where
    listed : kept_in p h new ≡ states_by p
    listed = done.listed ∙ walk_states

    kept_apart : Apart p.stride p.width (suc p.room) old new
    kept_apart = apart_trans begun done.apart

    fits_still : suc p.room * p.stride ≤ length new
    fits_still = rw kept_apart.long a.fits

    pub made_done : (z : List ℕ) → z ≡ zeros (mid_of (h * p.stride) ((p.room + 1) * p.stride - h * p.stride) new) →
        Made p table table' old (put_mid (h * p.stride) ((p.room + 1) * p.stride - h * p.stride) new z) h
    made_done z ez =
        record {
          count_is = sym (length_values p.stride p.width h new) ∙ ap length listed;
          roomy = done.roomy;
          table_is = done.table_is ∙ ap (λ (vs : List (List ℕ)). in_front (table_of (made p) (letters p.chart.now) vs) table) walk_states;
          vectors_is = zeroed p.stride p.width h p.room (states_by p) old new inside listed kept_apart done.roomy fits_still z ez;
        }
