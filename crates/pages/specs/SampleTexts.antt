-- Texts: E's own with what it prints, as document 01 has them, and further cases worked by hand.
use Rattle.std.specs.Prelude.{List, [], ◌∷◌, ◌++◌, ℕ, length, take, set}
use Prim.Native.Char.{code}
use Prim.Native.String.{String}
use Rattle.paper.specs.Builders.{blank}
use Rattle.paper.specs.Figures.{chart_e, table_e, reply}
use Rattle.paper.specs.NearCases.{nines}
use Rattle.pages.specs.Texts.{Filled, lines_of_text, lines_read, read_chart, print_table, print_refusal}
use Rattle.pages.specs.Programs.{program, nerode_makes, reduced_makes, brz_makes}

-- a line of text, and lines
unfoldable pub bytes_of : String → List ℕ
bytes_of String.[] = []
bytes_of (String.◌∷◌ c s) = code c ∷ bytes_of s

unfoldable pub lines : List String → List ℕ
lines [] = []
lines (s ∷ rest) = bytes_of s ++ (10 ∷ lines rest)

-- ---- E

unfoldable pub text_e : List ℕ
text_e =
    lines
    ("01000403020202"
    ∷ "020003000102" ∷ "020003010102" ∷ "020003020202"
    ∷ "030003000000" ∷ "030003000001" ∷ "030003000102"
    ∷ "0400020200" ∷ "0500020002"
    ∷ "0600020201" ∷ "0600020002" ∷ "0600020100" ∷ "0600020002"
    ∷ [])

unfoldable pub printed_e : List ℕ
printed_e = lines ("110003000302" ∷ "1200050000010002" ∷ "1200050100010001" ∷ "1200050000020002" ∷ "13000101" ∷ [])

unfoldable pub worked_e : List (List ℕ)
worked_e = (length text_e ∷ []) ∷ program brz_makes text_e ∷ (length printed_e ∷ []) ∷ []

unfoldable pub stated_e : List (List ℕ)
stated_e = (159 ∷ []) ∷ printed_e ∷ (73 ∷ []) ∷ []

-- ---- further cases

unfoldable pub filled : ℕ → Filled → List (List ℕ)
filled n f = reply f.reply ∷ take n f.buffer ∷ []

-- what the lines of a text come to, in a buffer of two bytes
unfoldable pub lines_in_two : List ℕ → List (List ℕ)
lines_in_two text = filled 2 (lines_read (lines_of_text text) (nines 2))

-- P13's chart
unfoldable pub text13 : List ℕ
text13 =
    lines ("01000402010101" ∷ "0200020001" ∷ "0200020101" ∷ "0300020000" ∷ "0300020000" ∷ "04000100" ∷ "05000100" ∷ "06000100" ∷ [])

-- E read; a short buffer; a text too long; no text; a line without its newline; a line too many; a head out of range; a grade of 3;
-- an upper-case digit; a broken law
unfoldable pub readings : List (List ℕ)
readings =
    filled 35 (lines_read (lines_of_text text_e) (nines 35))
    ++ (filled 2 (read_chart text_e (nines 2))
    ++ (lines_in_two (blank 22494)
    ++ (lines_in_two []
    ++ (lines_in_two (take 158 text_e)
    ++ (lines_in_two (text_e ++ (10 ∷ []))
    ++ (lines_in_two (lines ("01000401000101" ∷ []))
    ++ (lines_in_two (set text_e 157 51)
    ++ (lines_in_two (lines ("0100040A020202" ∷ [])) ++ lines_in_two text13))))))))

unfoldable pub readings_due : List (List ℕ)
readings_due =
    (0 ∷ 34 ∷ []) ∷ (chart_e ++ (9 ∷ []))
    ∷ (5 ∷ []) ∷ (9 ∷ 9 ∷ [])
    ∷ (14 ∷ 0 ∷ []) ∷ (0 ∷ 0 ∷ [])
    ∷ (14 ∷ 1 ∷ []) ∷ (0 ∷ 0 ∷ [])
    ∷ (14 ∷ 13 ∷ []) ∷ (0 ∷ 0 ∷ [])
    ∷ (14 ∷ 14 ∷ []) ∷ (0 ∷ 0 ∷ [])
    ∷ (1 ∷ []) ∷ (0 ∷ 0 ∷ [])
    ∷ (3 ∷ []) ∷ (0 ∷ 0 ∷ [])
    ∷ (14 ∷ 1 ∷ []) ∷ (0 ∷ 0 ∷ [])
    ∷ (4 ∷ 6 ∷ 1 ∷ 0 ∷ 0 ∷ []) ∷ (0 ∷ 0 ∷ [])
    ∷ []

-- E's table printed, into too little, and as another chart's; a refusal line; what the programs print
unfoldable pub printings : List (List ℕ)
printings =
    filled 74 (print_table chart_e table_e 3 2 (nines 74))
    ++ (filled 1 (print_table chart_e table_e 3 3 (nines 72))
    ++ (filled 1 (print_table chart_e table_e 3 3 (nines 85))
    ++ (filled 10 (print_refusal 14 (nines 10))
    ++ (filled 9 (print_refusal 14 (nines 8))
    ++ (nerode_makes chart_e ∷ reduced_makes chart_e ∷ program brz_makes [] ∷ [])))))

unfoldable pub printed_nerode_e : List ℕ
printed_nerode_e =
    lines
    ("110003000602"
    ∷ "1200050000010002" ∷ "1200050100010003" ∷ "1200050000020004" ∷ "1200050100030005" ∷ "1200050000040004" ∷ "1200050100050005"
    ∷ "13000101"
    ∷ [])

unfoldable pub printings_due : List (List ℕ)
printings_due =
    (0 ∷ 73 ∷ []) ∷ (printed_e ++ (9 ∷ []))
    ∷ (5 ∷ []) ∷ (9 ∷ [])
    ∷ (9 ∷ []) ∷ (9 ∷ [])
    ∷ (0 ∷ 9 ∷ []) ∷ (lines ("7f00010e" ∷ []) ++ (9 ∷ []))
    ∷ (5 ∷ []) ∷ nines 8
    ∷ printed_nerode_e ∷ printed_nerode_e ∷ lines ("7f00010e" ∷ [])
    ∷ []

-- ---- together

unfoldable pub texts_tried : List (List (List ℕ))
texts_tried = worked_e ∷ readings ∷ printings ∷ []

unfoldable pub texts_due : List (List (List ℕ))
texts_due = stated_e ∷ readings_due ∷ printings_due ∷ []
