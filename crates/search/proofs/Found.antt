-- The search by numbers: the chain of a number passes over no state that has the key. Assumes nothing.
use mathlib.Core.Path.{◌≡◌, refl, sym, ap, ◌∙◌}
use mathlib.Core.Bool.{Bool, true, false}
use mathlib.Core.List.{List}
use Prim.Native.Nat.{ℕ, suc, ◌+◌, ◌-◌, ◌*◌, ◌≤◌, ◌<◌}
use native.Mathlib.Nat.{le_refl, suc-mul, mul-le-mul_right}
use native.Mathlib.Numerals.{add-one}
use native.Mathlib.Omega.{arith}
use lib.ListN.{length, get_or, take, drop, set}
use lib.Seq.{get_or-set_other}
use borrow.Author.Tests.{lt-ltb, le-ltb}
use Rattle.paper.specs.Lists.{same_list}
use Rattle.paper.specs.Chart.{k_of}
use Rattle.paper.specs.Numbering.{place}
use Rattle.lists.proofs.ByPlace.{same_true, same_false}
use Rattle.lists.proofs.Tests.{below_suc}
use Rattle.numbering.proofs.Place.{place_is, place_nowhere}
use Rattle.places.specs.Search.{place_at}
use Rattle.places.proofs.Search.{length_values, values_at}
use Rattle.marks.specs.Marks.{mark_of}
use Rattle.std.specs.Prelude.{Option, Some, None}
use Rattle.std.specs.Option.{is_some}
use Rattle.marks.specs.declared.chains.Index.{Index}
use Rattle.marks.specs.Chains.{bucket_of, entry, Chained}
use Rattle.marks.proofs.ChainLaws.{OnChain, NoneFrom, start_on, next_on, next_low, none_start, none_next}
use Rattle.paper.specs.Constructions.{reduced_key}
use Rattle.kinds.specs.Kinds.{made, keyed, key_size}
use Rattle.kinds.specs.Ready.{Value}
use Rattle.search.specs.Kept.{kept_in, Valued, Holds, FoundFor, Sought, held_with}
use Rattle.kinds.specs.declared.Kind.{Kind}
use Rattle.kinds.specs.declared.plan.Plan.{Plan}
use Rattle.kinds.proofs.KindLaws.{own_key, own_size}
use Rattle.kinds.proofs.Keys.{length_key}

-- the bytes that the code takes at a running offset
pub taken : (stride w : ℕ) (xs : List ℕ) (s at : ℕ) → at ≡ s * stride → take (at + w - at) (drop at xs) ≡ place_at stride w xs s
unfolding place_at
taken stride w xs s at e = let q : at + w - at ≡ w = omega arith in rw (q, e)

-- a place below the room is within the bytes
pub place_inside : {p : Plan} {vectors marks : List ℕ} {held : ℕ} → Valued p vectors marks held → (s : ℕ) → s ≤ p.room →
    s * p.stride + p.stride ≤ length vectors
place_inside {p} h s l =
    let m : suc s * p.stride ≤ suc p.room * p.stride = mul-le-mul_right p.stride (omega arith) in
    omega (arith, suc-mul s p.stride, h.fits)

-- ---- one place, and the answer

module _ {p : Plan} {vectors marks : List ℕ} {held : ℕ} (h : Valued p vectors marks held) (key : List ℕ) where
  -- the key of the value in place s
  abbrev key_at : ℕ → List ℕ
  key_at s = (made p).key (place_at p.stride p.width vectors s)

  -- the value as the code takes it
  pub value_taken : (s : ℕ) → s < held → Value (k_of p.chart.now) p.width (take (s * p.stride + p.width - s * p.stride) (drop (s * p.stride) vectors))
  value_taken s l = rw (taken p.stride p.width vectors s (s * p.stride) refl) (h.values s l)

  pub told : (s : ℕ) {t : Bool} → t ≡ same_list ((made p).key (take (s * p.stride + p.width - s * p.stride) (drop (s * p.stride) vectors))) key → t ≡ same_list (key_at s) key
  told s q = q ∙ rw (taken p.stride p.width vectors s (s * p.stride) refl)

  module _ (s : ℕ) (passed : (j : ℕ) → j < s → (made p).key (place_at p.stride p.width vectors j) ≡ key → ⊥) where
    found_at : s < held → (made p).key (place_at p.stride p.width vectors s) ≡ key → FoundFor p vectors held key (Some s)
    found_at l e v ev =
        let q : place ((made p).key) (kept_in p held vectors) v ≡ s =
        place_is ((made p).key) (kept_in p held vectors) v s (rw length_values l) (rw (values_at p.stride p.width held vectors s l) (e ∙ ev))
        (λ j b f. passed j b ((rw (values_at p.stride p.width held vectors j (omega arith)) at f) ∙ sym ev)) in
        simp (q, lt-ltb s held l)

    found_none : held ≤ s → FoundFor p vectors held key None
    found_none l v ev =
        let q : place ((made p).key) (kept_in p held vectors) v ≡ held =
        place_nowhere ((made p).key) (kept_in p held vectors) v
        (λ j b f.
        let b' : j < held = rw length_values at b in
        passed j (omega arith) ((rw (values_at p.stride p.width held vectors j b') at f) ∙ sym ev))
        ∙ length_values p.stride p.width held vectors in
        simp (q, le-ltb held held (omega arith))

-- ---- the walk along the chain

-- the first place passed that has the key, or `held`
abbrev until : ℕ → Option ℕ → ℕ
until held None = held
until held (Some s) = s

-- a place that it comes to
pub record Down (p : Plan) (vectors marks : List ℕ) (held number : ℕ) (key : List ℕ) (next first : Option ℕ) : Type 0 where
  pub on : OnChain marks held number (entry next)
  pub past : NoneFrom (λ s. (made p).key (place_at p.stride p.width vectors s) ≡ key) (entry next) (until held first)
  pub own : (s : ℕ) → first ≡ Some s → (s < held) × ((made p).key (place_at p.stride p.width vectors s) ≡ key)

module _ {p : Plan} {vectors : List ℕ} {index : Index} {held number : ℕ} {key : List ℕ} (h : Holds p vectors index held) (n : number ≡ mark_of key) where
  -- a place with the key has the number
  numbered : (s : ℕ) → s < held → (made p).key (place_at p.stride p.width vectors s) ≡ key → get_or index.marks s 0 ≡ number
  numbered s l e = h.valued.marked s l ∙ ap mark_of e ∙ sym n

  pub down_start : {next : Option ℕ} → entry next ≡ get_or index.heads (bucket_of number) 0 → Down p vectors index.marks held number key next None
  down_start e = record { on = start_on h.chained number e; past = none_start h.chained number _ numbered e; own = λ s f. absurd (cc) }

  module _ {s : ℕ} {here first : Option ℕ} (d : Down p vectors index.marks held number key here first) (f : here ≡ Some s) where
    pub down_low : s < held
    down_low = omega (arith, d.on.low, ap entry f)

    at_s : suc s ≡ entry here
    at_s = ap entry (sym f)

    pub down_less : (next : Option ℕ) → entry next ≡ get_or index.links s 0 → entry next < entry here
    down_less next e = omega (arith, next_low h.chained number d.on at_s e, at_s)

    module _ {next : Option ℕ} (e : entry next ≡ get_or index.links s 0) {t : Bool} (q : t ≡ same_list ((made p).key (place_at p.stride p.width vectors s)) key) where
      -- place s has the key
      pub down_here : {first' : Option ℕ} → first' ≡ Some s → t ≡ true → Down p vectors index.marks held number key next first'
      down_here g y =
          rw
          g
          (record {
            on = next_on h.chained number d.on at_s e;
            past = none_next h.chained number _ numbered d.on at_s e (λ t l b. absurd (omega (arith, at_s))) (λ b. absurd (omega arith));
            own = λ r i. let j : s ≡ r = cc in rw (← j) (down_low, same_true _ key (sym q ∙ y));
          })

      -- or not
      pub down_past : {first' : Option ℕ} → first' ≡ first → t ≡ false → Down p vectors index.marks held number key next first'
      down_past g y =
          rw
          g
          (record {
            on = next_on h.chained number d.on at_s e;
            past = none_next h.chained number _ numbered d.on at_s e d.past (λ _. same_false _ key (sym q ∙ y));
            own = d.own;
          })

  pub down_end : {next first : Option ℕ} → Down p vectors index.marks held number key next first → next ≡ None → FoundFor p vectors held key first
  down_end {next} {first} d z = go first d
    where
      go : (first : Option ℕ) → Down p vectors index.marks held number key next first → FoundFor p vectors held key first
      go None d = found_none h.valued key held (λ j b. d.past j (omega (arith, ap entry z)) b) (le_refl held)
      go (Some s) d = let o = d.own s refl in found_at h.valued key s (λ j b. d.past j (omega (arith, ap entry z)) b) o.0 o.1

-- ---- the candidate looked for

module _ {p : Plan} {vectors : List ℕ} {index : Index} {held : ℕ} {key : List ℕ} {found : Option ℕ} (h : Holds p vectors index held)
    (e : key ≡ (made p).key (place_at p.stride p.width vectors held)) (f : FoundFor p vectors held key found) where
  -- its key is new: its number is kept, and indexed
  module _ {index' : Index} {number : ℕ} (v : Value (k_of p.chart.now) p.width (place_at p.stride p.width vectors held)) (n : number ≡ mark_of key)
      (k : Chained index' (held + 1) × (index'.marks ≡ set index.marks held number) × (get_or index'.marks held 0 ≡ number)) where
    valued_more : Valued p vectors index'.marks (held + 1)
    valued_more =
        record {
          fits = h.valued.fits;
          values = rw add-one (below_suc {P = λ i. Value (k_of p.chart.now) p.width (place_at p.stride p.width vectors i)} held h.valued.values v);
          marked =
              rw add-one
              (below_suc {P = λ i. get_or index'.marks i 0 ≡ mark_of ((made p).key (place_at p.stride p.width vectors i))} held
              (λ i b. rw k.1 (get_or-set_other index.marks held i number 0 (λ e. omega arith) ∙ h.valued.marked i b))
              (k.2 ∙ n ∙ ap mark_of e));
        }

    pub sought_new : is_some found ≡ false → Sought p vectors index' held found
    sought_new g = record { answer = f _ e; holds = go found g }
      where
        go : (found : Option ℕ) → is_some found ≡ false → Holds p vectors index' (held_with held found)
        go None g = record { valued = valued_more; chained = k.0 }
        go (Some s) g = absurd (cc)

-- ---- the candidate's key

module _ (p : Plan) (vectors : List ℕ) (held : ℕ) where
  -- the candidate as the code takes it
  pub candidate : Value (k_of p.chart.now) p.width (place_at p.stride p.width vectors held) →
      Value (k_of p.chart.now) p.width (take (held * p.stride + p.width - held * p.stride) (drop (held * p.stride) vectors))
  candidate h = rw (taken p.stride p.width vectors held (held * p.stride) refl) h

  -- its key in the reduced table
  module _ (e : p.kind ≡ Kind.Reduced) {key : List ℕ} (h : key ≡ reduced_key p.chart.now (take (held * p.stride + p.width - held * p.stride) (drop (held * p.stride) vectors))) where
    pub key_reduced : key ≡ (made p).key (place_at p.stride p.width vectors held)
    key_reduced = h ∙ rw (taken p.stride p.width vectors held (held * p.stride) refl, e)

    pub size_reduced : length key ≡ key_size p.kind p.chart.now p.width
    size_reduced = rw e (ap length h ∙ length_key p.chart.now _)

  -- and elsewhere
  module _ (e : keyed p.kind ≡ false) where
    pub key_itself : take (held * p.stride + p.width - held * p.stride) (drop (held * p.stride) vectors) ≡ (made p).key (place_at p.stride p.width vectors held)
    key_itself = taken p.stride p.width vectors held (held * p.stride) refl ∙ sym (own_key p.kind p.chart.now _ e)

    pub size_itself : Value (k_of p.chart.now) p.width (place_at p.stride p.width vectors held) →
        length (take (held * p.stride + p.width - held * p.stride) (drop (held * p.stride) vectors)) ≡ key_size p.kind p.chart.now p.width
    size_itself h = (candidate h).long ∙ sym (own_size p.kind p.chart.now p.width e)
