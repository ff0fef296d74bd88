-- Lines of mismatches that are written one behind the other.
use Rattle.std.proofs.Common.{◌≡◌, ◌<◌, ◌+◌, ◌∙◌, ℕ, List, [], ◌∷◌, ◌++◌, length, take, get_or, ap, sym, append_assoc, append-nil, Result, Ok}
use Rattle.std.specs.Prelude.{flat_map}
use Rattle.std.proofs.lemmas.Grind.{flat_map-append}
use Rattle.sg_kinds.proofs.Kids.{take_more}
use Rattle.sg_kinds.specs.Values.{Bytes}
use Rattle.sg_kinds.specs.declared.fault.SpecFault.{SpecFault}
use Rattle.sg_text.specs.Tokens.{tokens_of}
use Rattle.sg_text.specs.declared.tokens.LexFault.{LexFault}
use Rattle.sg_text.specs.declared.tokens.Token.{Token}
use Rattle.sg_ast.specs.Declarations.{Decl}
use Rattle.sg_names.specs.declared.table.Table.{Table}
use Rattle.sg_remote.specs.Longer.{names_of}
use Rattle.sg_mistyped.specs.Mistyped.{mistypes}
use Rattle.sg_load.specs.Trees.{trees_in}
use Rattle.sg_mismatches.specs.Mistypes.{mistyped_text, mistypes_with, text_mistypes}

-- two texts behind a third
pub both : (old mid new a b : Bytes) → mid ≡ old ++ a → new ≡ mid ++ b → new ≡ old ++ (a ++ b)
both old mid new a b first second = second ∙ ap (λ (l : Bytes). l ++ b) first ∙ append_assoc old a b

-- the text of one element more
pub one_more : {X : Type 0} (f : X → Bytes) (xs : List X) (i : ℕ) (x : X) (out out' : Bytes) → i < length xs → x ≡ get_or xs i x → out ≡ flat_map f (take i xs) → out' ≡ out ++ f x → out' ≡ flat_map f (take (i + 1) xs)
one_more f xs i x out out' inside at so_far next =
    let more : flat_map f (take (i + 1) xs) ≡ flat_map f (take i xs) ++ f x =
    ap (flat_map f) (take_more xs i x inside at) ∙ flat_map-append f (take i xs) (x ∷ []) ∙ ap (λ (l : Bytes). flat_map f (take i xs) ++ l) (append-nil (f x))
    in
    next ∙ ap (λ (l : Bytes). l ++ f x) so_far ∙ sym more

pub all_told : (bytes : Bytes) (ts : List Token) (ds : List Decl) (t : Table) (text : Bytes) → tokens_of bytes ≡ Ok ts → trees_in bytes ≡ Ok ds → t ≡ names_of ds
    → text ≡ flat_map (mistyped_text bytes ts t.phyla) (mistypes t ds) → text ≡ text_mistypes bytes
all_told bytes ts ds t text tokens trees names is =
    is ∙ ap (λ (t : Table). flat_map (mistyped_text bytes ts t.phyla) (mistypes t ds)) names
    ∙ ap (λ (r : Result (List Token) LexFault). mistypes_with bytes r (Ok ds)) (sym tokens)
    ∙ ap (λ (r : Result (List Decl) SpecFault). mistypes_with bytes (tokens_of bytes) r) (sym trees)
