use Rattle.std.proofs.Common.{◌≡◌, ◌≤◌, arith, subst, sym, length, IfSome, IsTrue, ◌↔◌, Bool}
use Rattle.std.proofs.lemmas.Bool.{eqb-true}
use Rattle.std.proofs.lemmas.List.{nil_from_length}
use Rattle.sg_console.specs.Lines.{IsFilled}
use Rattle.sg_console.proofs.LineLemmas.{taken-end, taken-full, taken-long}
use Rattle.sg_console.proofs.lines.take_from.Goals as goal

pub returns-then-is_empty-clause-taken : goal.returns-then-is_empty-clause-taken
returns-then-is_empty-clause-taken g c =
    let none : length c.fill.new.line.items ≡ 0 = omega (arith, c.fill.new.line.ok.0, eqb-true _ _ (sym c.if-is_empty.ensures)) in
    taken-end c.args.most (g.R.Read.remaining c.args.reader.now) (g.R.Read.remaining c.fill.new.reader) c.fill.new.line.items
    (subst (IsFilled c.args.most (g.R.Read.remaining c.args.reader.now) (g.R.Read.remaining c.fill.new.reader) c.fill.new.line.items) c.if-branch.true c.in_ok-fill.ensures.filled)
    (nil_from_length c.fill.new.line.items none)

pub returns-then-not-branch-clause-taken : goal.returns-then-not-branch-clause-taken
returns-then-not-branch-clause-taken g c =
    let P : Bool → Type 0 = λ some. IfSome (g.R.Read.remaining c.fill.new.reader) (λ xs. IsTrue some ↔ (1 ≤ length xs)) in
    taken-full c.args.most (g.R.Read.remaining c.args.reader.now) (g.R.Read.remaining c.fill.new.reader) (g.R.Read.remaining c.pass_over.new.reader) c.fill.new.line.items
    (subst (IsFilled c.args.most (g.R.Read.remaining c.args.reader.now) (g.R.Read.remaining c.fill.new.reader) c.fill.new.line.items) c.if-branch.false c.in_ok-fill.ensures.filled)
    (subst P c.if-not-branch.true c.in_ok-pass_over.ensures.some) c.in_ok-pass_over.ensures.rest c.requires.some

pub returns-clause-taken : goal.returns-clause-taken
returns-clause-taken g c =
    let P : Bool → Type 0 = λ some. IfSome (g.R.Read.remaining c.fill.new.reader) (λ xs. IsTrue some ↔ (1 ≤ length xs)) in
    taken-long c.args.most (g.R.Read.remaining c.args.reader.now) (g.R.Read.remaining c.fill.new.reader) (g.R.Read.remaining c.pass_over.new.reader) c.fill.new.line.items c.clear.new.self.items
    (subst (IsFilled c.args.most (g.R.Read.remaining c.args.reader.now) (g.R.Read.remaining c.fill.new.reader) c.fill.new.line.items) c.if-branch.false c.in_ok-fill.ensures.filled)
    (subst P c.if-not-branch.false c.in_ok-pass_over.ensures.some) c.in_ok-pass_over.ensures.rest c.clear.ensures.items
