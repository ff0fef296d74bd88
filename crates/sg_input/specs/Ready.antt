-- What a parse reads.
use Rattle.std.specs.Prelude.{◌≡◌, ℕ, ◌<◌, length, drop}
use Rattle.sg_kinds.specs.Sound.{IsSound}
use Rattle.sg_grammar.specs.Numbered.{grammar_of}
use Rattle.sg_machine.specs.Machine.{look}
use Rattle.sg_input.specs.Pieces.{AreTokens}
use Rattle.sg_input.specs.Results.{tokens_in}
use Rattle.sg_input.specs.declared.stacks.Reading.{Reading}

-- the tables are those of the specification, which is sound and has the entry, and the tokens are of the text
pub record IsReady (r : Reading) : Type 0 where
  pub grammar : r.tables.now.grammar ≡ grammar_of r.evaluator.now
  pub sound : IsSound r.evaluator.now
  pub entry : r.entry < length r.evaluator.now.entries
  pub tokens : AreTokens r.evaluator.now r.text.now r.tokens.now

-- the terminal of the token at a place, or the end
abbrev pub next_of : Reading → ℕ → ℕ
next_of r at = look (drop at (tokens_in r.text.now r.tokens.now))
