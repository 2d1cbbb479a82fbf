-- The demands together: a table that was built grades words on the bench as the chart does, and a Nerode table's own sheet is accepted. Assumes nothing.
use mathlib.Core.Path.{◌≡◌, sym, ap₂, ◌∙◌, subst}
use mathlib.Core.Bool.{true}
use mathlib.Core.List.{List, [], ◌∷◌, ◌++◌, append-nil}
use Prim.Native.Nat.{ℕ, ◌<◌}
use native.Mathlib.Omega.{arith}
use lib.ListN.{length, get_or}
use borrow.Author.Tests.{lt-ltb, le-leb}
use Rattle.paper.specs.Lists.{joined}
use Rattle.paper.specs.Words.{Word}
use Rattle.paper.specs.Reply.{fine}
use Rattle.paper.specs.Chart.{k_of, letters}
use Rattle.paper.specs.Check.{chart_fits}
use Rattle.paper.specs.Vectors.{vector_of, grade_of}
use Rattle.paper.specs.Tables.{two_bytes, grade_top, table_fits, state_of, letter_fits, bad_letter, word_reply}
use Rattle.paper.specs.Constructions.{Construction, nerode_by}
use Rattle.paper.specs.Sheets.{sheet_reply}
use Rattle.lists.proofs.Tests.{least_none}
use Rattle.lists.proofs.ByPlace.{joined_cong}
use Rattle.numbering.proofs.Words.{word_at}
use Rattle.numbering.proofs.TableFits.{Table, table_passes}
use Rattle.algebra.specs.Honest.{word_line, Honest}
use Rattle.algebra.proofs.Checked.{sound}
use Rattle.algebra.proofs.Tables.{chart_table}
use Rattle.algebra.proofs.SheetComplete.{words_line, laid_out}
use Rattle.promises.specs.Faithful.{Result, EveryWord, Faithful, SameVector}
use Rattle.promises.specs.Demands.{SheetCheck, SheetComplete, sheet_line, SheetAccepted, WalksAlike, NerodeSheet}
use Rattle.promises.proofs.Exact.{nerode_builds}
use Rattle.promises.proofs.Forward.{nerode_faithful}
use Rattle.promises.proofs.Sheets.{sheet_complete}
use Rattle.promises.proofs.FirstWords.{first, first_word, first_value, first_state, reached_low}

-- ---- on the bench

module _ (c : List ℕ) (b : Construction) (alike : List ℕ → List ℕ → Type 0) (t : Result) (chart : chart_fits c ≡ true) (f : Faithful c b (grade_of c) alike t) where
  facts : Table t.table t.count (letters c) (k_of c)
  facts = chart_table c t.table t.count (letters c) f.fits

  -- the chart's grades are below 16, so the table passes without its chart too
  fits_alone : table_fits t.table t.count (letters c) grade_top ≡ true
  fits_alone =
      table_passes
      t.table
      t.count
      (letters c)
      grade_top
      (record {
        sized = facts.sized;
        row = λ s h. record { grade_low = omega (arith, (facts.row s h).grade_low, (sound c chart).sizes.k_high); next_low = (facts.row s h).next_low };
      })

  word_reply_lem : EveryWord c (λ u. word_reply t.table t.count (letters c) u ≡ fine (grade_of c u ∷ []))
  unfolding word_reply bad_letter letter_fits
  word_reply_lem u w =
      rw (
        fits_alone,
        least_none (letter_fits u (letters c)) (length u) (λ i h. lt-ltb (get_or u i 0) (letters c) (word_at (letters c) u w i h)),
        le-leb (length u) (length u) (omega arith),
        f.grades u w,
      )

pub walks_alike : WalksAlike
walks_alike = word_reply_lem

-- ---- a Nerode table's own sheet

module _ (check : SheetCheck) (complete : SheetComplete check) (c : List ℕ) (t : Result) (chart : chart_fits c ≡ true) (f : Faithful c (nerode_by c) (grade_of c) (SameVector c) t) where
  -- the first word of a state
  abbrev word : ℕ → List ℕ
  word s = first c (nerode_by c) (grade_of c) (SameVector c) t f s

  word_letters : (s : ℕ) → s < t.count → Word (letters c) (word s)
  word_letters = first_word c (nerode_by c) (grade_of c) (SameVector c) t f

  -- it leads to that state, and the vector behind the state is its vector
  word_vector : (s : ℕ) → s < t.count → t.value s ≡ vector_of c (word s)
  unfolding vector_of
  word_vector = first_value c (nerode_by c) (grade_of c) (SameVector c) t f

  word_state : (s : ℕ) → s < t.count → state_of t.table (letters c) (word s) ≡ s
  word_state = first_state c (nerode_by c) (grade_of c) (SameVector c) t f

  line_is : (s : ℕ) → s < t.count → words_line c t.table (letters c) word s ≡ sheet_line t s
  unfolding words_line word_line
  line_is s h = ap₂ (λ n v. two_bytes n ++ v) (word_state s h) (sym (word_vector s h))

  -- every word reaches the pair of a first word
  found : (u : List ℕ) → Word (letters c) u →
      (i : ℕ) × ((i < t.count) × ((state_of t.table (letters c) (word i) ≡ state_of t.table (letters c) u) × (vector_of c (word i) ≡ vector_of c u)))
  unfolding vector_of
  found u w =
      let s = state_of t.table (letters c) u in
      let h = reached_low c (nerode_by c) (grade_of c) (SameVector c) t f u w in
      (s, (h, (word_state s h, sym (word_vector s h) ∙ f.leads u w)))

  own_sheet : SheetAccepted check c t
  own_sheet =
      complete
      c
      t.table
      t.count
      (letters c)
      (joined t.count (sheet_line t))
      t.count
      (record { chart = chart; table = f.fits; graded = f.grades })
      (subst
      (λ (sheet : List ℕ). Honest c t.table (letters c) sheet t.count)
      (append-nil (joined t.count (words_line c t.table (letters c) word))
      ∙ joined_cong t.count (words_line c t.table (letters c) word) (sheet_line t) line_is)
      (laid_out
      c
      t.table
      (letters c)
      t.count
      word
      []
      (chart_table c t.table t.count (letters c) f.fits).sized.count_high
      word_letters
      found))

-- whatever check is complete
pub own_sheet_accepted : (check : SheetCheck) → SheetComplete check → NerodeSheet check
own_sheet_accepted check complete c room table vectors e =
    own_sheet check complete c _ ((nerode_builds c room table vectors).0 e).0.0 (nerode_faithful c room table vectors e)

pub nerode_sheet : NerodeSheet sheet_reply
nerode_sheet = own_sheet_accepted sheet_reply sheet_complete
