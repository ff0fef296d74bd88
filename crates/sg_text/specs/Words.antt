-- The reserved words and their spellings.
use Rattle.std.specs.Prelude.{ℕ, List, [], ◌∷◌, Option, find, codes}
use Rattle.sg_text.specs.declared.words.Keyword.{Keyword}
use Rattle.sg_text.specs.declared.words.Keyword.TheVariants.{Root, List as ListWord, Optional, Synthesized, Inherited, Local, Transform, On, Let, In, With, Default, True, False}
use Rattle.sg_text.specs.Symbols.{is_same}

-- the bytes of a reserved word
abbrev pub keyword_bytes : Keyword → List ℕ
keyword_bytes Root = codes "root"
keyword_bytes ListWord = codes "list"
keyword_bytes Optional = codes "optional"
keyword_bytes Synthesized = codes "synthesized"
keyword_bytes Inherited = codes "inherited"
keyword_bytes Local = codes "local"
keyword_bytes Transform = codes "transform"
keyword_bytes On = codes "on"
keyword_bytes Let = codes "let"
keyword_bytes In = codes "in"
keyword_bytes With = codes "with"
keyword_bytes Default = codes "default"
keyword_bytes True = codes "true"
keyword_bytes False = codes "false"

-- all reserved words
abbrev pub keywords : List Keyword
keywords =
    Root ∷ ListWord ∷ Optional ∷ Synthesized ∷ Inherited ∷ Local ∷ Transform ∷ On ∷ Let ∷ In ∷ With ∷ Default ∷ True
    ∷ False ∷ []

-- the reserved word of these bytes
abbrev pub keyword_of : List ℕ → Option Keyword
keyword_of w = find (λ k. is_same (keyword_bytes k) w) keywords
