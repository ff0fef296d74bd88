-- The first file of a name, along the list of files
use Rattle.std.proofs.Common.{◌≡◌, ℕ, List, [], ◌∷◌, Bool, true, false, cond, map, length, ap, sym, ◌∙◌, refl, string_bytes, Option, Some, None, arith}
use Rattle.std.specs.Ordering.{nat_cmp}
use Rattle.std.specs.Cmp.Lexicographic.{slice_cmp, texts_ties}
use Rattle.std.specs.FinMap.{find}
use Rattle.std.specs.Str.{bytes_eq}
use Rattle.sg_outside.specs.declared.file_log.File.{File}
use Rattle.sg_outside.specs.FileLog.{entry_of}

-- what a search along the files answers
abbrev pub found : List ℕ → List File → Option (List ℕ)
found name files = find (slice_cmp nat_cmp) name (map entry_of files)

step : (name : List ℕ) (file : File) (files rest : List File) (same : Bool) → rest ≡ file ∷ files → same ≡ bytes_eq name (string_bytes file.name) → found name rest ≡ cond same (Some file.bytes.items) (found name files)
step name file files rest same is e = ap (found name) is ∙ ap (λ (v : Bool). cond v (Some file.bytes.items) (found name files)) (sym (texts_ties name (string_bytes file.name)) ∙ sym e)

-- a file of that name is the answer
pub found-first : (name : List ℕ) (file : File) (files rest : List File) (same : Bool) → rest ≡ file ∷ files → same ≡ bytes_eq name (string_bytes file.name) → same ≡ true → found name rest ≡ Some file.bytes.items
found-first name file files rest same is e t = step name file files rest same is e ∙ ap (λ (v : Bool). cond v (Some file.bytes.items) (found name files)) t

-- a file of another name leaves the answer to the rest
pub found-past : (name : List ℕ) (file : File) (files rest : List File) (same : Bool) → rest ≡ file ∷ files → same ≡ bytes_eq name (string_bytes file.name) → same ≡ false → found name rest ≡ found name files
found-past name file files rest same is e t = step name file files rest same is e ∙ ap (λ (v : Bool). cond v (Some file.bytes.items) (found name files)) t

pub found-end : (name : List ℕ) (rest : List File) → length rest ≡ 0 → found name rest ≡ None
found-end name [] e = refl
found-end name (x ∷ xs) e = absurd (omega arith)
