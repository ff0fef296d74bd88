-- What spells commands is read as these commands.
use Rattle.std.specs.Prelude.{◌≡◌, refl, ℕ, zero, suc, ◌+◌, ◌-◌, ◌≤◌, Bool, true, false, not, ◌&&◌, ◌==◌, nat_le, nat_lt, if◌then◌else◌, List, [], ◌∷◌, ◌++◌, length, take, map, Some, None, option_map, option_and_then, Ok, Err}
use Rattle.std.specs.List.{All, list_all, slice_split, join_with_byte}
use Rattle.std.specs.Str.Lines.{lines, lines_of_parts, strip_carriage_return}
use Rattle.std.specs.Fmt.{decimal}
use Rattle.std.proofs.Common.{◌∙◌, ap, arith, get_or}
use Rattle.std.proofs.lemmas.Bool.{and_parts}
use Rattle.std.proofs.lemmas.Bool.Decides.{nat_tests}
use Rattle.std.proofs.lemmas.List.Elements.{All-nil, All-cons}
use Rattle.std.proofs.lemmas.List.Splits.{slice_split_none, slice_split_at}
use Rattle.sg_text.specs.Bytes.{newline, space}
use Rattle.sg_text.specs.Strings.{unescaped}
use Rattle.sg_kinds.proofs.Elementary.{and_true, eq_false, le_is, not_true}
use Rattle.sg_script.specs.declared.command.Command.{Command}
use Rattle.sg_script.specs.declared.command.Command.TheVariants.{New, Load, Switch, Show, Next, Prev, Up, First, Sibling, Goto, Extend, Shrink, Find, Do, ReplaceAll, Delete, Remove, InsertBefore, InsertAfter, Cut as CutOut, Copy, Paste, Text, TypeIn, Erase, Enter, Abandon, Alternate, Elide, Undo, Redo, View, Save, SaveText}
use Rattle.sg_script.specs.declared.lines.Said.TheVariants as said
use Rattle.sg_script.specs.declared.fault.ScriptFault.TheVariants.{Long, Line, Many}
use Rattle.sg_script.specs.Forms.{is_name, name_of, is_view_name, view_name_of, is_file_name, file_name_of, count_of}
use Rattle.sg_script.specs.Commands.{one_name, one_view, viewed, one_file, one_count, one_string, loaded, placed, command_of, rows, edit_rows, text_rows, is_word}
use Rattle.sg_script.specs.Script.{says_nothing, meaning_of, commands_said, commands_in, is_unknown, bad_line, fault_in, verdict, script_of}
use Rattle.sg_script.specs.Spelled.{string_of, line_of, is_position, is_text, has_forms, text_of, is_script}
use Rattle.sg_script.proofs.Spelled.{is_plain, first_word, name_word, name_plain, name_there, name_is, name_last, view_plain, view_is, view_last, view_there, file_plain, file_is, file_last, place_word, place_plain, place_there, place_is, place_last, unescaped_escaped, string_last, plain_append, string_plain}

one_name_is : (b : List ℕ) → is_name b ≡ true → one_name (space ∷ b) ≡ Some b
one_name_is b h = ap (option_and_then name_of) (name_last b h) ∙ name_is b h

one_view_is : (v : List ℕ) → is_view_name v ≡ true → one_view (space ∷ v) ≡ Some v
one_view_is v h = ap (option_and_then view_name_of) (view_last v h) ∙ view_is v h

viewed_is : (v : List ℕ) → is_view_name v ≡ true → viewed (space ∷ v) ≡ Some (View (Some v))
viewed_is v h =
    ap (λ t. if t then Some (View None) else option_map (λ name. View (Some name)) (one_view (space ∷ v))) (view_there v h)
    ∙ ap (option_map (λ name. View (Some name))) (one_view_is v h)

one_file_is : (f : List ℕ) → is_file_name f ≡ true → one_file (space ∷ f) ≡ Some f
one_file_is f h = ap (option_and_then file_name_of) (file_last f h) ∙ file_is f h

one_count_is : (n : ℕ) → is_position n ≡ true → one_count (space ∷ decimal n) ≡ Some n
one_count_is n h = ap (option_and_then count_of) (place_last n h) ∙ place_is n h

one_string_is : (t : List ℕ) → is_text t ≡ true → one_string (space ∷ string_of t) ≡ Some t
one_string_is t h = ap (option_map unescaped) (string_last t h) ∙ ap Some (unescaped_escaped t)

loaded_is : (b f : List ℕ) → is_name b ≡ true → is_file_name f ≡ true → loaded (space ∷ b ++ space ∷ f) ≡ Some (Load b f)
loaded_is b f h k =
    ap (option_and_then (λ c. option_and_then (λ name. option_map (Load name) (one_file c.1)) (name_of c.0))) (first_word b f (name_word b h) (name_there b h))
    ∙ ap (option_and_then (λ name. option_map (Load name) (one_file (space ∷ f)))) (name_is b h)
    ∙ ap (option_map (Load b)) (one_file_is f k)

placed_is : (l c : ℕ) → is_position l ≡ true → is_position c ≡ true → placed (space ∷ decimal l ++ space ∷ decimal c) ≡ Some (Goto l c)
placed_is l c h k =
    ap (option_and_then (λ w. option_and_then (λ line. option_map (Goto line) (one_count w.1)) (count_of w.0))) (first_word (decimal l) (decimal c) (place_word l h) (place_there l h))
    ∙ ap (option_and_then (λ line. option_map (Goto line) (one_count (space ∷ decimal c)))) (place_is l h)
    ∙ ap (option_map (Goto l)) (one_count_is c k)

-- a command is that of the line that spells it
pub spelled : (c : Command) → has_forms c ≡ true → command_of (line_of c) ≡ Some c
unfolding command_of rows edit_rows text_rows is_word
spelled (New b) h = ap (option_map New) (one_name_is b h)
spelled (Load b f) h = let p = and_parts (is_name b) (is_file_name f) h in loaded_is b f p.0 p.1
spelled (Switch b) h = ap (option_map Switch) (one_name_is b h)
spelled Show h = refl
spelled Next h = refl
spelled Prev h = refl
spelled Up h = refl
spelled First h = refl
spelled Sibling h = refl
spelled (Goto l c) h = let p = and_parts (is_position l) (is_position c) h in placed_is l c p.0 p.1
spelled Extend h = refl
spelled Shrink h = refl
spelled (Find t) h = ap (option_map Find) (one_string_is t h)
spelled (Do t) h = ap (option_map Do) (one_string_is t h)
spelled (ReplaceAll t) h = ap (option_map ReplaceAll) (one_string_is t h)
spelled Delete h = refl
spelled Remove h = refl
spelled InsertBefore h = refl
spelled InsertAfter h = refl
spelled CutOut h = refl
spelled Copy h = refl
spelled Paste h = refl
spelled (Text t) h = ap (option_map Text) (one_string_is t h)
spelled (TypeIn t) h = ap (option_map TypeIn) (one_string_is t h)
spelled Erase h = refl
spelled Enter h = refl
spelled Abandon h = refl
spelled Alternate h = refl
spelled Elide h = refl
spelled Undo h = refl
spelled Redo h = refl
spelled (View None) h = refl
spelled (View (Some v)) h = viewed_is v h
spelled (Save f) h = ap (option_map Save) (one_file_is f h)
spelled (SaveText f) h = ap (option_map SaveText) (one_file_is f h)

-- such a line holds no end of a line, and says something
line_plain : (c : Command) → has_forms c ≡ true → list_all is_plain (line_of c) ≡ true
line_plain (New b) h = name_plain b h
line_plain (Load b f) h =
    let p = and_parts (is_name b) (is_file_name f) h in plain_append b (space ∷ f) (name_plain b p.0) (file_plain f p.1)
line_plain (Switch b) h = name_plain b h
line_plain (Goto l c) h =
    let p = and_parts (is_position l) (is_position c) h in
    plain_append (decimal l) (space ∷ decimal c) (place_plain l p.0) (place_plain c p.1)
line_plain (Find t) h = string_plain t h
line_plain (Do t) h = string_plain t h
line_plain (ReplaceAll t) h = string_plain t h
line_plain (Text t) h = string_plain t h
line_plain (TypeIn t) h = string_plain t h
line_plain (View (Some v)) h = view_plain v h
line_plain (Save f) h = file_plain f h
line_plain (SaveText f) h = file_plain f h
line_plain _ h = refl

line_speaks : (c : Command) → says_nothing (line_of c) ≡ false
line_speaks (New b) = refl
line_speaks (Load b f) = refl
line_speaks (Switch b) = refl
line_speaks (Goto l c) = refl
line_speaks (Find t) = refl
line_speaks (Do t) = refl
line_speaks (ReplaceAll t) = refl
line_speaks (Text t) = refl
line_speaks (TypeIn t) = refl
line_speaks (View (Some v)) = refl
line_speaks (Save f) = refl
line_speaks (SaveText f) = refl
line_speaks _ = refl

line_means : (c : Command) → has_forms c ≡ true → meaning_of (line_of c) ≡ said.Command c
unfolding meaning_of
line_means c h = rw (line_speaks c, spelled c h) refl

-- lines that hold no end of a line, joined by newlines, are the lines of the text
plain_at : (l : List ℕ) (i : ℕ) → list_all is_plain l ≡ true → (get_or l i 0 == 13) ≡ false
plain_at [] i h = refl
plain_at (b ∷ l) zero h =
    let p = and_parts (is_plain b) (list_all is_plain l) h in
    not_true (b == 13) (and_parts (not (b == 10)) (not (b == 13)) p.0).1
plain_at (b ∷ l) (suc i) h = plain_at l i (and_parts (is_plain b) (list_all is_plain l) h).1

stripped : (l : List ℕ) → list_all is_plain l ≡ true → strip_carriage_return l ≡ l
stripped l h = ap (λ t. if t then take (length l - 1) l else l) (plain_at l (length l - 1) h)

no_newline : (l : List ℕ) → list_all is_plain l ≡ true → All (λ b. (b == 10) ≡ false) l
no_newline [] h = All-nil (λ b. (b == 10) ≡ false)
no_newline (b ∷ l) h =
    let p = and_parts (is_plain b) (list_all is_plain l) h in
    let other : (b == 10) ≡ false = not_true (b == 10) (and_parts (not (b == 10)) (not (b == 13)) p.0).0 in
    All-cons (λ b. (b == 10) ≡ false) b l other (no_newline l p.1)

abbrev is_line : List ℕ → Bool
is_line l = list_all is_plain l && not (says_nothing l)

kept_parts : (ls : List (List ℕ)) → list_all is_line ls ≡ true → lines_of_parts ls ≡ ls
kept_parts [] h = refl
kept_parts (l ∷ []) h = go l (and_parts (list_all is_plain l) (not (says_nothing l)) (and_parts (is_line l) true h).0).1
  where
    go : (l : List ℕ) → not (says_nothing l) ≡ true → lines_of_parts (l ∷ []) ≡ l ∷ []
    go [] s = absurd cc
    go (b ∷ l) s = let some : (length (b ∷ l) == 0) ≡ false = eq_false (length (b ∷ l)) 0 (λ e. absurd (omega arith)) in ap (λ t. if t then [] else (b ∷ l) ∷ []) some
kept_parts (l ∷ m ∷ ls) h =
    let p = and_parts (is_line l) (list_all is_line (m ∷ ls)) h in
    let s = stripped l (and_parts (list_all is_plain l) (not (says_nothing l)) p.0).0 in
    rw (s, kept_parts (m ∷ ls) p.1) refl

cut_parts : (l : List ℕ) (ls : List (List ℕ)) → list_all is_line (l ∷ ls) ≡ true → slice_split (λ b. b == 10) (join_with_byte newline (l ∷ ls)) ≡ l ∷ ls
cut_parts l [] h =
    let p = and_parts (is_line l) true h in
    slice_split_none (λ b. b == 10) l (no_newline l (and_parts (list_all is_plain l) (not (says_nothing l)) p.0).0)
cut_parts l (m ∷ ls) h =
    let p = and_parts (is_line l) (list_all is_line (m ∷ ls)) h in
    slice_split_at (λ b. b == 10) l newline (join_with_byte newline (m ∷ ls)) (no_newline l (and_parts (list_all is_plain l) (not (says_nothing l)) p.0).0) refl
    ∙ ap (λ parts. l ∷ parts) (cut_parts m ls p.1)

spelled_lines : (ls : List (List ℕ)) → list_all is_line ls ≡ true → lines (join_with_byte newline ls) ≡ ls
spelled_lines [] h = refl
spelled_lines (l ∷ ls) h = ap lines_of_parts (cut_parts l ls h) ∙ kept_parts (l ∷ ls) h

all_lines : (cs : List Command) → list_all has_forms cs ≡ true → list_all is_line (map line_of cs) ≡ true
all_lines [] h = refl
all_lines (c ∷ cs) h =
    let p = and_parts (has_forms c) (list_all has_forms cs) h in
    and_true (is_line (line_of c)) (list_all is_line (map line_of cs)) (and_true (list_all is_plain (line_of c)) (not (says_nothing (line_of c))) (line_plain c p.0) (ap not (line_speaks c))) (all_lines cs p.1)

none_bad : (n : ℕ) (cs : List Command) → list_all has_forms cs ≡ true → bad_line n (map line_of cs) ≡ None
none_bad n [] h = refl
none_bad n (c ∷ cs) h =
    let p = and_parts (has_forms c) (list_all has_forms cs) h in
    ap (λ s. if is_unknown s then Some n else bad_line (n + 1) (map line_of cs)) (line_means c p.0) ∙ none_bad (n + 1) cs p.1

all_said : (cs : List Command) → list_all has_forms cs ≡ true → commands_in (map line_of cs) ≡ cs
all_said [] h = refl
all_said (c ∷ cs) h =
    let p = and_parts (has_forms c) (list_all has_forms cs) h in
    ap (λ s. commands_said s ++ commands_in (map line_of cs)) (line_means c p.0) ∙ ap (λ more. c ∷ more) (all_said cs p.1)

-- a script of lines that spell commands is read as these commands
pub spelled_script : (cs : List Command) → is_script cs ≡ true → script_of (text_of cs) ≡ Ok cs
unfolding script_of
spelled_script cs h =
    let p = and_parts (list_all has_forms cs && nat_le (length cs) 10000) (nat_le (length (text_of cs)) 1048576) h in
    let q = and_parts (list_all has_forms cs) (nat_le (length cs) 10000) p.0 in
    let few : length cs ≤ 10000 = le_is (length cs) 10000 q.1 in
    let short : length (text_of cs) ≤ 1048576 = le_is (length (text_of cs)) 1048576 p.1 in
    let long : nat_lt 1048576 (length (text_of cs)) ≡ false = grind (arith, nat_tests) in
    let many : nat_lt 10000 (length cs) ≡ false = grind (arith, nat_tests) in
    let ls : lines (text_of cs) ≡ map line_of cs = spelled_lines (map line_of cs) (all_lines cs q.0) in
    ap (λ t. if t then Err Long else verdict (fault_in (lines (text_of cs))) (commands_in (lines (text_of cs)))) long
    ∙ ap (λ l. verdict (fault_in l) (commands_in l)) ls
    ∙ ap (λ b. verdict (option_map Line b) (commands_in (map line_of cs))) (none_bad 1 cs q.0)
    ∙ ap (verdict None) (all_said cs q.0)
    ∙ ap (λ t. if t then Err (Many (length cs)) else Ok cs) many
