-- The name of a file is a text.
use Rattle.std.specs.Prelude.{◌≡◌, ◌<◌, ℕ, List, [], ◌∷◌, true, nat_le}
use Rattle.std.proofs.Common.{arith}
use Rattle.std.specs.List.{list_all}
use Rattle.std.specs.Str.{IsAscii, IsUtf8}
use Rattle.std.proofs.lemmas.Bool.{and_parts}
use Rattle.std.proofs.lemmas.Str.Ascii.{IsAscii-nil, IsAscii-cons}
use Rattle.std.proofs.lemmas.Str.{IsUtf8-from_ascii}
use Rattle.sg_kinds.proofs.Elementary.{le_is}
use Rattle.sg_script.specs.Forms.{is_graphic, has_length, is_file_name}

graphic : (bs : List ℕ) → list_all is_graphic bs ≡ true → IsAscii bs
graphic [] h = IsAscii-nil
graphic (b ∷ bs) h =
    let p = and_parts (is_graphic b) (list_all is_graphic bs) h in
    let q = and_parts (nat_le 33 b) (nat_le b 126) p.0 in
    let small : b < 128 = omega (arith, le_is b 126 q.1) in
    IsAscii-cons b bs small (graphic bs p.1)

pub file_name_utf8 : (bs : List ℕ) → is_file_name bs ≡ true → IsUtf8 bs
file_name_utf8 bs h = IsUtf8-from_ascii bs (graphic bs (and_parts (has_length bs) (list_all is_graphic bs) h).1)
