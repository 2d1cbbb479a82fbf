-- A text that is read as a chart is the chart's text. Assumes nothing.
use mathlib.Core.Path.{◌≡◌, sym, ◌∙◌, subst}
use mathlib.Core.Bool.{true}
use mathlib.Core.List.{List, [], ◌∷◌, ◌++◌}
use Prim.Native.Nat.{ℕ, ◌+◌}
use native.Mathlib.Omega.{arith}
use lib.Dec.{leb}
use lib.ListN.{length, take, drop, length-append, take-append-drop, drop_of_length-le}
use lib.Seq.{take-length, drop-drop, get_or-take}
use borrow.Author.Tests.{leb-true}
use Rattle.paper.specs.Chart.{head_size}
use Rattle.paper.specs.Check.{head_fits}
use Rattle.pages.specs.Frames.{frame, line_length, payload, frame_fits}
use Rattle.pages.specs.Texts.{Lines, bad_line, bad_head, chart, dues, lines_from, lines_after, text_most, lines_of_text}
use Rattle.lists.proofs.Tests.{unless_passed}
use Rattle.texts.specs.ChartText.{frames_of, text_of}
use Rattle.texts.proofs.ListLaws.{begins}
use Rattle.frames.proofs.FrameRead.{length_payload}
use Rattle.texts.proofs.FrameBack.{frame_back}

-- one line
line_back : (kind w : ℕ) (text : List ℕ) (pos : ℕ) (done c : List ℕ) (rest : ℕ → List ℕ) → frame_fits kind w text pos ≡ true → take (length (done ++ payload w text pos)) c ≡ done ++ payload w text pos → drop (pos + line_length w) text ≡ rest (length (done ++ payload w text pos)) → (take (length done) c ≡ done) × (drop pos text ≡ frame kind (take w (drop (length done) c)) ++ rest (length done + w))
line_back kind w text pos done c rest e h k =
    let n : length (payload w text pos) ≡ w = length_payload w text pos in
    let b = begins c done (payload w text pos) h in
    let p : take w (drop (length done) c) ≡ payload w text pos = subst (λ (i : ℕ). take i (drop (length done) c) ≡ payload w text pos) n b.1 in
    let l : length (done ++ payload w text pos) ≡ length done + w = omega (arith, length-append done (payload w text pos)) in
    (b.0, sym (take-append-drop (line_length w) (drop pos text)) ∙ rw (frame_back kind w text pos e, drop-drop (line_length w) pos text, k, l, p))

-- a refusal is no chart
not_chart : {line : ℕ} {c : List ℕ} → bad_line line ≡ chart c → ⊥
not_chart e = let z : ◌≡◌ {A = ℕ} 0 1 = cc in omega arith

not_chart_head : {c : List ℕ} → bad_head ≡ chart c → ⊥
not_chart_head e = let z : ◌≡◌ {A = ℕ} 0 1 = cc in omega arith

-- lines that come to a chart: it begins with what had been read, and the text goes on with its frames
lines_back : (ds : List (ℕ × ℕ)) (text : List ℕ) (line pos : ℕ) (done c : List ℕ) → lines_from ds text line pos done ≡ chart c → (take (length done) c ≡ done) × (drop pos text ≡ frames_of c ds (length done))
unfolding lines_from frames_of
lines_back [] text line pos done c e =
    let p = unless_passed (λ t. t ≡ chart c) (leb (length text) pos) (bad_line line) (chart done) not_chart e in
    let q : chart done ≡ chart c = p.1 in
    let z : done ≡ c = cc in
    (rw z (take-length c), drop_of_length-le text (leb-true (length text) pos p.0))
lines_back (d ∷ ds) text line pos done c e =
    let p = unless_passed (λ t. t ≡ chart c) (frame_fits d.0 d.1 text pos) (bad_line line) (lines_from ds text (line + 1) (pos + line_length d.1) (done ++ payload d.1 text pos)) not_chart e in
    let r = lines_back ds text (line + 1) (pos + line_length d.1) (done ++ payload d.1 text pos) c p.1 in
    line_back d.0 d.1 text pos done c (frames_of c ds) p.0 r.0 r.1

-- the lines due go by a chart's head alone
pub dues_same : (c head : List ℕ) → take head_size c ≡ head → dues head ≡ dues c
unfolding dues
dues_same c head q = rw (← q, get_or-take head_size c 0 0 (omega arith), get_or-take head_size c 2 0 (omega arith), get_or-take head_size c 3 0 (omega arith))

pub text_back : (text c : List ℕ) → lines_of_text text ≡ chart c → text ≡ text_of c
unfolding lines_of_text lines_after text_of frames_of
text_back text c e =
    let head : List ℕ = payload head_size text 0 in
    let Is : Lines → Type 0 = λ t. t ≡ chart c in
    let short = unless_passed Is (leb (length text) text_most) _ _ not_chart e in
    let fits = unless_passed Is (frame_fits 0x01 head_size text 0) _ _ not_chart short.1 in
    let sizes = unless_passed Is (head_fits head) bad_head (lines_from (dues head) text 2 (line_length head_size) head) not_chart_head fits.1 in
    let r = lines_back (dues head) text 2 (line_length head_size) head c sizes.1 in
    let n : length head ≡ head_size = length_payload head_size text 0 in
    let t : take head_size c ≡ head = subst (λ (i : ℕ). take i c ≡ head) n r.0 in
    let k : drop (line_length head_size) text ≡ frames_of c (dues c) head_size = r.1 ∙ rw (n, dues_same c head t) in
    sym (take-append-drop (line_length head_size) text) ∙ rw (frame_back 0x01 head_size text 0 fits.0, k, t)
