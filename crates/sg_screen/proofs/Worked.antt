-- Worked examples: blocks as they are printed.
use Rattle.std.specs.Prelude.{◌≡◌, refl, ℕ, List, [], ◌∷◌, ◌++◌, codes, Option, Some, None}
use Rattle.std.specs.List.{slice_split}
use Rattle.std.specs.Fmt.{digits}
use Rattle.sg_kinds.specs.Values.{Bytes}
use Rattle.sg_kinds.specs.declared.marks.FaultKind.TheVariants.{Overflow}
use Rattle.sg_unparse.specs.Page.{is_newline, Region}
use Rattle.sg_script.specs.declared.message.Message.{Message}
use Rattle.sg_script.specs.declared.message.Message.TheVariants.{Fine, NoBuffer, ParseAt, Result}
use Rattle.sg_script.specs.Message.{message_text}
use Rattle.sg_screen.specs.Block.{Head, block, bare}

-- short forms
abbrev from_to : (line column last_line last_column : ℕ) → Region
from_to a b c d = record { first = record { line = a; column = b }; last = record { line = c; column = d } }

abbrev head_with : (name : Bytes) → (view : Option Bytes) → Region → (phylum : Bytes) → (count top ev : ℕ) → Message → Head
head_with name view region phylum count top ev message =
    record { name = name; view = view; region = region; phylum = phylum; count = count; top = top; ev = ev; message = message }

abbrev head : (name : Bytes) → Region → (phylum : Bytes) → (top ev : ℕ) → Message → Head
head name region phylum top ev message = head_with name None region phylum 1 top ev message

abbrev lines : Bytes → List Bytes
lines page = slice_split is_newline page

abbrev printed : List Bytes → Bytes
printed [] = []
printed (l ∷ ls) = l ++ 10 ∷ printed ls

-- the first block of the calculator
first_block : block (head (codes "main") (from_to 1 1 2 9) (codes "calc") 1 1 Fine) (lines (codes "<exp>\nVALUE = 0")) 80 24 ≡ printed
    (codes "= main 1:1-2:9 calc top 1 ev 1 ok" ∷ codes "|<exp>" ∷ codes "|VALUE = 0" ∷ [])
unfolding digits
first_block = refl

-- a window of 10 columns and 2 lines that begins at line 2; the lines in it are cut
small_window : block (head (codes "p") (from_to 3 1 3 14) (codes "stmt") 2 0 Fine)
    (lines (codes "let a = 5\nprint a  -- 5\nprint b  -- -1\n1 errors")) 10 2 ≡ printed
    (codes "= p 3:1-3:14 stmt top 2 ev 0 ok" ∷ codes "|print a  -" ∷ codes "|print b  -" ∷ [])
unfolding digits
small_window = refl

-- a page without cells has one line; one that ends with a newline has an empty one last
empty_page : block (head (codes "a") (from_to 1 1 1 1) (codes "a") 1 0 Fine) (lines []) 80 24 ≡ printed (codes "= a 1:1-1:1 a top 1 ev 0 ok" ∷ codes "|" ∷ [])
unfolding digits
empty_page = refl

last_newline : block (head (codes "a") (from_to 1 1 1 3) (codes "a") 1 0 Fine) (lines (codes "ab\n")) 80 24 ≡ printed
    (codes "= a 1:1-1:3 a top 1 ev 0 ok" ∷ codes "|ab" ∷ codes "|" ∷ [])
unfolding digits
last_newline = refl

-- two elements of a list
run_block : block (head_with (codes "p") None (from_to 1 1 2 13) (codes "stmt") 2 1 0 Fine) (lines (codes "let a = 5\nprint a  -- 5")) 80 24 ≡ printed
    (codes "= p 1:1-2:13 stmt*2 top 1 ev 0 ok" ∷ codes "|let a = 5" ∷ codes "|print a  -- 5" ∷ [])
unfolding digits
run_block = refl

-- a view that is not the ordinary one
view_block : block (head_with (codes "a") (Some (codes "post")) (from_to 1 1 2 9) (codes "calc") 1 1 0 Fine) (lines (codes "1 2 +\nVALUE = 3")) 80 24 ≡ printed
    (codes "= a/post 1:1-2:9 calc top 1 ev 0 ok" ∷ codes "|1 2 +" ∷ codes "|VALUE = 3" ∷ [])
unfolding digits
view_block = refl

-- a refusal with a number, and one with a reason
refused_block : block (head (codes "a") (from_to 1 2 1 2) (codes "exp") 1 0 (ParseAt 2)) (lines (codes "(0 + <exp>)\nVALUE = 0")) 80 24 ≡ printed
    (codes "= a 1:2-1:2 exp top 1 ev 0 parse at 2" ∷ codes "|(0 + <exp>)" ∷ codes "|VALUE = 0" ∷ [])
unfolding digits
refused_block = refl

reason : message_text (Result Overflow) ≡ codes "result overflow"
reason = refl

-- no buffer is current
no_buffer : bare NoBuffer ≡ codes "= - ev 0 no buffer\n"
no_buffer = refl
