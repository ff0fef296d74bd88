-- The results of the grammar's productions, as lists of values.
use Rattle.std.specs.Prelude.{List, [], ◌∷◌, if◌then◌else◌, nat_lt, map, option_map, unwrap_or, slice_get}
use Rattle.std.specs.List.{flat_map}
use Rattle.sg_kinds.specs.Values.{Bytes, Value, Chars}
use Rattle.sg_kinds.specs.Outcome.{outcome_of}
use Rattle.sg_kinds.specs.declared.spec.Spec.{Spec}
use Rattle.sg_patterns.specs.declared.scanning.InToken.{InToken}
use Rattle.sg_grammar.specs.declared.grammar.Made.{Made}
use Rattle.sg_grammar.specs.declared.grammar.Production.{Production}
use Rattle.sg_grammar.specs.declared.grammar.Made.TheVariants.{Outcome, Same}
use Rattle.sg_grammar.specs.Derives.{Token, Algebra}
use Rattle.sg_grammar.specs.Numbered.{first_lexeme, grammar_of}
use Rattle.sg_input.specs.Pieces.{part}

-- a token with its text
abbrev pub token_in : Bytes → InToken → Token
token_in text x = record { terminal = x.terminal; text = part text x.from x.to }

abbrev pub tokens_in : Bytes → List InToken → List Token
tokens_in text tokens = map (token_in text) tokens

-- the values of lists, one list after the other
abbrev pub joined : List (List Value) → List Value
joined ws = flat_map (λ (vs : List Value). vs) ws

-- what is made of the values of a right side
abbrev pub made_of : Spec → Made → List Value → List Value
made_of spec (Outcome e) vs = outcome_of spec e vs ∷ []
made_of spec Same vs = vs

-- a literal has no value, a lexeme its text, and a production what is made of the values of its right side
abbrev pub results_of : Spec → Algebra (List Value)
results_of spec = record {
  leaf = λ x. if nat_lt x.terminal (first_lexeme spec) then [] else Chars x.text ∷ [];
  node = λ p ws. unwrap_or (option_map (λ (r : Production). made_of spec r.made (joined ws))
      (slice_get (grammar_of spec).rules p)) [];
}
