use Rattle.std.proofs.Common.{◌≡◌, ◌+◌, ◌-◌, ◌<◌, ◌≤◌, ℕ, [], ◌∷◌, ◌++◌, length, get_or, take, refl, sym, ap, ◌∙◌, subst}
use Rattle.std.proofs.lemmas.Option.{slice_get-get_or}
use Rattle.sg_kinds.specs.Values.{Chars}
use Rattle.sg_pool.specs.Pools.{StandsFor}
use Rattle.sg_patterns.specs.declared.scanning.InToken.{InToken}
use Rattle.sg_grammar.specs.Numbered.{first_lexeme}
use Rattle.sg_eval.specs.MadeTerms.{AreMade}
use Rattle.sg_eval.proofs.MadeLater.{made_later}
use Rattle.sg_input.specs.Driven.{Driven, DrivenTo}
use Rattle.sg_input.specs.Pieces.{part}
use Rattle.sg_input.specs.Ready.{next_of}
use Rattle.sg_input.specs.Results.{tokens_in}
use Rattle.sg_input.proofs.Steps.{shifted-literal, shifted-lexeme, on-ok}
use Rattle.sg_input.proofs.stacks.Stacks.shift.Goals as goal

pub returns-then-token-first_lexeme-clause-driven : goal.returns-then-token-first_lexeme-clause-driven
returns-then-token-first_lexeme-clause-driven c =
    let r = c.args.reading.now in
    let s = c.args.self.now in
    let spec = r.evaluator.now in
    let none : InToken = record { terminal = 0; from = 0; to = 0 } in
    let x = get_or r.tokens.now c.args.at none in
    let top = get_or s.states.items (length s.states.items - 1) 0 in
    let literal : x.terminal < first_lexeme spec = subst (λ n. x.terminal < n) c.first_lexeme.ensures c.if-token-first_lexeme.true in
    let d = shifted-literal spec c.requires.ready.sound r.tables.now c.requires.ready.grammar c.sound.ensures r.entry c.requires.ready.entry r.text.now r.tokens.now c.requires.ready.tokens c.args.at s.states.items s.results.items s.pool c.requires.driven
    x (slice_get-get_or r.tokens.now c.args.at none c.requires.at) top c.args.next refl c.requires.acts literal in
    subst (λ z. Driven r.tables.now spec r.entry (take (c.args.at + 1) (tokens_in r.text.now r.tokens.now)) (next_of r (c.args.at + 1)) z s.results.items s.pool) (sym c.in_ok-push.ensures.items) d

pub returns-clause-driven : goal.returns-clause-driven
returns-clause-driven c =
    let r = c.args.reading.now in
    let s = c.args.self.now in
    let spec = r.evaluator.now in
    let none : InToken = record { terminal = 0; from = 0; to = 0 } in
    let x = get_or r.tokens.now c.args.at none in
    let top = get_or s.states.items (length s.states.items - 1) 0 in
    let pool = c.put_text.new.self.pool in
    let lexeme : first_lexeme spec ≤ x.terminal = subst (λ n. n ≤ x.terminal) c.first_lexeme.ensures c.if-token-first_lexeme.false in
    let states : s.states.items ++ c.args.next ∷ [] ≡ c.put_text.new.self.states.items = sym (ap (λ z. z.items) c.put_text.ensures.states ∙ c.in_ok-push.ensures.items) in
    on-ok c.put_text.result ((id : ℕ) × StandsFor pool id (Chars (part r.text.now x.from x.to)) × (c.put_text.new.self.results.items ≡ s.results.items ++ id ∷ []))
    (DrivenTo r (c.args.at + 1) c.put_text.new.self.states.items c.put_text.new.self.results.items pool) c.put_text.ensures.put
    (λ p.
    let d = shifted-lexeme spec c.requires.ready.sound r.tables.now c.requires.ready.grammar c.sound.ensures r.entry c.requires.ready.entry r.text.now r.tokens.now c.requires.ready.tokens c.args.at s.states.items s.results.items s.pool c.requires.driven
    x (slice_get-get_or r.tokens.now c.args.at none c.requires.at) top c.args.next refl c.requires.acts lexeme pool p.0 c.put_text.ensures.grown p.1 in
    let e = subst (λ z. Driven r.tables.now spec r.entry (take (c.args.at + 1) (tokens_in r.text.now r.tokens.now)) (next_of r (c.args.at + 1)) z (s.results.items ++ p.0 ∷ []) pool) states d in
    subst (λ z. Driven r.tables.now spec r.entry (take (c.args.at + 1) (tokens_in r.text.now r.tokens.now)) (next_of r (c.args.at + 1)) c.put_text.new.self.states.items z pool) (sym p.2) e)

pub returns-clause-made : goal.returns-clause-made
returns-clause-made c =
    let s = c.args.self.now in
    subst (λ z. AreMade c.args.reading.now.evaluator.now z c.put_text.new.self.pool) (sym c.put_text.ensures.made) (made_later c.args.reading.now.evaluator.now s.made s.pool c.put_text.new.self.pool c.requires.made c.put_text.ensures.grown)
