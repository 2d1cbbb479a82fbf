-- The text of a chart whose sizes are in range is read as that chart; with TextBack, no other text is. Assumes nothing.
use mathlib.Core.Path.{◌≡◌, refl, sym, ap, ◌∙◌, subst}
use mathlib.Core.Bool.{true}
use mathlib.Core.List.{List, [], ◌∷◌, ◌++◌, append_assoc, append-nil}
use mathlib.Core.Logic.{⊎_elim, ◌↔◌}
use Prim.Native.Nat.{ℕ, zero, suc, ◌+◌, ◌*◌, ◌≤◌, ◌<◌}
use native.Mathlib.Nat.{add-zero}
use native.Mathlib.Omega.{arith}
use lib.ListN.{length, get_or, take, drop, replicate, length-append, length-take, length-drop, get_or-append, get_or-eq_default}
use lib.Seq.{take-length, take-add, get_or-take, get_or-drop, get_or-append-add, length-take-le}
use borrow.Author.Tests.{le-leb}
use Rattle.paper.specs.Chart.{head_size, k_of, e_of, n_of, m_of, chart_size}
use Rattle.paper.specs.Check.{head_fits}
use Rattle.pages.specs.Frames.{frame, line_length, payload, frame_fits}
use Rattle.pages.specs.Texts.{chart, lines_of, width_of, dues_from, dues, lines_from, lines_after, text_most, lines_of_text}
use Rattle.algebra.specs.Sizes.{Sizes}
use Rattle.chart.proofs.Ranges.{sizes_are}
use Rattle.lists.proofs.Bound.{le_or_lt, product}
use Rattle.texts.specs.ChartText.{frames_of, text_of}
use Rattle.frames.proofs.FrameWritten.{length_frame}
use Rattle.texts.proofs.FrameBack.{Bytes, frame_read, payload_read}
use Rattle.dues.proofs.Dues.{sum_due, sum_replicate, bytes_due}
use Rattle.texts.proofs.TextBack.{dues_same, text_back}

-- ---- one line

-- a part of a chart's bytes
bytes_part : (c : List ℕ) (at w : ℕ) → Bytes c → Bytes (take w (drop at c))
unfolding Bytes
bytes_part c at w h i =
    ⊎_elim (λ l. omega (arith, get_or-eq_default (take w (drop at c)) 0 {n = i} (omega (arith, length-take w (drop at c)))))
    (λ l. rw (get_or-take w (drop at c) i 0 l, get_or-drop at c i 0) (h (at + i)))
    (le_or_lt w i)

length_run : (c : List ℕ) (at w : ℕ) → at + w ≤ length c → length (take w (drop at c)) ≡ w
length_run c at w h = length-take-le w (drop at c) (simp length-drop (omega arith))

-- one frame in its place
frame_in : (kind : ℕ) (p before behind text : List ℕ) → text ≡ before ++ (frame kind p ++ behind) → (i : ℕ) → i < line_length (length p) → get_or text (length before + i) 0 ≡ get_or (frame kind p) i 0
frame_in kind p before behind text q i l =
    rw (q, get_or-append-add before (frame kind p ++ behind) i 0) (get_or-append (frame kind p) behind 0 i (omega (arith, length_frame kind p)))

line_read : (c : List ℕ) (kind w : ℕ) (text before behind : List ℕ) (pos at : ℕ) → Bytes c → kind < 256 → w < 65536 → pos ≡ length before → text ≡ before ++ (frame kind (take w (drop at c)) ++ behind) → at + w ≤ length c → (frame_fits kind w text pos ≡ true) × (take at c ++ payload w text pos ≡ take (at + w) c)
line_read c kind w text before behind pos at b small few z q h =
    let p : List ℕ = take w (drop at c) in
    let n : length p ≡ w = length_run c at w h in
    let same : (i : ℕ) → i < line_length (length p) → get_or text (pos + i) 0 ≡ get_or (frame kind p) i 0 = λ i l. rw z (frame_in kind p before behind text q i l) in
    let few' : length p < 65536 = omega arith in
    let r : payload w text pos ≡ p = subst (λ (k : ℕ). payload k text pos ≡ p) n (payload_read kind p text pos small few' (bytes_part c at w b) same) in
    (subst (λ (k : ℕ). frame_fits kind k text pos ≡ true) n (frame_read kind p text pos small few' (bytes_part c at w b) same), rw r (sym (take-add at w c)))

-- ---- line after line

-- kinds that are bytes, widths that a count of two bytes holds
Small : List (ℕ × ℕ) → Type 0
Small [] = Unit {0}
Small (d ∷ ds) = (d.0 < 256) × (d.1 < 65536) × Small ds

lines_read : (c : List ℕ) (ds : List (ℕ × ℕ)) (text before : List ℕ) (line pos at : ℕ) → Bytes c → Small ds → pos ≡ length before → text ≡ before ++ frames_of c ds at → at + bytes_due ds ≤ length c → lines_from ds text line pos (take at c) ≡ chart (take (at + bytes_due ds) c)
unfolding lines_from frames_of sum_due Small
lines_read c [] text before line pos at b s z q h =
    let n : length text ≡ length before = ap length q ∙ ap length (append-nil before) in
    simp (le-leb (length text) pos (omega arith), add-zero)
lines_read c (d ∷ ds) text before line pos at b s z q h =
    let p : List ℕ = take d.1 (drop at c) in
    let n : length p ≡ d.1 = length_run c at d.1 (omega arith) in
    let r = line_read c d.0 d.1 text before (frames_of c ds (at + d.1)) pos at b s.0 s.1 z q (omega arith) in
    let z' : pos + line_length d.1 ≡ length (before ++ frame d.0 p) = omega (arith, length-append before (frame d.0 p), length_frame d.0 p) in
    let m : at + (d.1 + bytes_due ds) ≡ at + d.1 + bytes_due ds = omega arith in
    simp (r.0, r.1, m)
    (lines_read c ds text (before ++ frame d.0 p) (line + 1) (pos + line_length d.1) (at + d.1) b s.2 z' (q ∙ sym (append_assoc before (frame d.0 p) (frames_of c ds (at + d.1)))) (omega arith))

-- ---- the lines of a chart

small_lines : (l kind w : ℕ) (ds : List (ℕ × ℕ)) → kind < 256 → w < 65536 → Small ds → Small (replicate l (kind, w) ++ ds)
unfolding Small
small_lines zero kind w ds a b s = s
small_lines (suc l) kind w ds a b s = (a, b, small_lines l kind w ds a b s)

small_dues : (k n m : ℕ) → k ≤ 16 → n ≤ 24 → Small (dues_from k n m 5 2)
unfolding dues_from width_of Small
small_dues k n m a b =
    small_lines (lines_of k n m 2) 2 k _ (omega arith) (omega arith)
    (small_lines (lines_of k n m 3) 3 k _ (omega arith) (omega arith)
    (small_lines (lines_of k n m 4) 4 n _ (omega arith) (omega arith)
    (small_lines (lines_of k n m 5) 5 n _ (omega arith) (omega arith) (small_lines (lines_of k n m 6) 6 n [] (omega arith) (omega arith) tt))))

-- how long they are
abbrev length_due : List (ℕ × ℕ) → ℕ
length_due ds = sum_due line_length ds

length_frames : (c : List ℕ) (ds : List (ℕ × ℕ)) (at : ℕ) → at + bytes_due ds ≤ length c → length (frames_of c ds at) ≡ length_due ds
unfolding frames_of sum_due
length_frames c [] at h = refl
length_frames c (d ∷ ds) at h =
    let p : List ℕ = take d.1 (drop at c) in
    omega (arith, length-append (frame d.0 p) (frames_of c ds (at + d.1)), length_frame d.0 p, length_run c at d.1 (omega arith), length_frames c ds (at + d.1) (omega arith))

-- a chart's text is short enough
length_all : (k n m : ℕ) → k ≤ 16 → n ≤ 24 → m ≤ 16 → line_length head_size + length_due (dues_from k n m 5 2) ≤ text_most
unfolding sum_due dues_from lines_of width_of
length_all k n m a b d =
    simp (sum_replicate line_length)
    (omega (arith, product {a = k} {b = line_length k} {c = 16} {d = 39} a (omega arith), product {a = m * n} {b = line_length n} {c = 384} {d = 55} (product {a = m} {b = n} {c = 16} {d = 24} d b) (omega arith)))

-- the bytes of all lines are the chart's
bytes_chart : (c : List ℕ) → head_size + bytes_due (dues c) ≡ chart_size c
unfolding sum_due dues dues_from lines_of width_of
bytes_chart c = simp (sum_replicate (λ w. w)) (omega arith)

-- ---- the text
module _ (c : List ℕ) (bytes : Bytes c) (fits : head_fits c ≡ true) (n : length c ≡ chart_size c) where
  sizes : Sizes (k_of c) (e_of c) (n_of c) (m_of c)
  unfolding head_fits
  sizes = sizes_are (k_of c) (e_of c) (n_of c) (m_of c) fits

  head : List ℕ
  head = take head_size c

  total : head_size + bytes_due (dues c) ≡ length c
  total = bytes_chart c ∙ sym n

  -- at most 22,493 bytes
  pub length_text : length (text_of c) ≤ text_most
  unfolding text_of frames_of dues head
  length_text =
      omega
      (arith, length-append (frame 0x01 head) (frames_of c (dues c) head_size), length_frame 0x01 head, length-take-le head_size c (omega (arith, total)), length_frames c (dues c) head_size (omega (arith, total)), length_all (k_of c) (n_of c) (m_of c) sizes.k_high sizes.n_high sizes.m_high)

  first : (frame_fits 0x01 head_size (text_of c) 0 ≡ true) × (payload head_size (text_of c) 0 ≡ head)
  unfolding text_of frames_of head
  first = line_read c 0x01 head_size (text_of c) [] (frames_of c (dues c) head_size) 0 0 bytes (omega arith) (omega arith) refl refl (omega (arith, total))

  head_fits_lem : head_fits head ≡ true
  unfolding head_fits head
  head_fits_lem =
      rw (get_or-take head_size c 0 0 (omega arith), get_or-take head_size c 1 0 (omega arith), get_or-take head_size c 2 0 (omega arith), get_or-take head_size c 3 0 (omega arith)) fits

  rest : lines_from (dues c) (text_of c) 2 (line_length head_size) head ≡ chart c
  unfolding text_of frames_of dues head
  rest =
      let l : length head ≡ head_size = length-take-le head_size c (omega (arith, total)) in
      lines_read c (dues c) (text_of c) (frame 0x01 head) 2 (line_length head_size) head_size bytes (small_dues (k_of c) (n_of c) (m_of c) sizes.k_high sizes.n_high) (omega (arith, length_frame 0x01 head)) refl (omega (arith, total))
      ∙ rw (total, take-length)

  pub text_read : lines_of_text (text_of c) ≡ chart c
  unfolding lines_of_text lines_after head
  text_read = rw (le-leb (length (text_of c)) text_most length_text, first.0, first.1, head_fits_lem, dues_same c head refl) rest

  -- a text is read as the chart exactly where it is the chart's text
  pub reads_exactly : (text : List ℕ) → (lines_of_text text ≡ chart c) ↔ (text ≡ text_of c)
  reads_exactly text = (text_back text c, λ q. rw q text_read)
