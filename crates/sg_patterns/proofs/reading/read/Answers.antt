use Rattle.std.proofs.Common.{◌≡◌, length, arith, sym, ◌∙◌, subst}
use Rattle.sg_patterns.specs.Spelling.{IsNoPattern}
use Rattle.sg_patterns.proofs.Forms.{read-none, read-on, read-refused, read-whole, read-only, read-ends}
use Rattle.sg_patterns.proofs.reading.read.Goals as goal

pub loop-at-init : goal.loop-at-init
loop-at-init c = read-none c.args.bytes.now c.new-reader.result c.new-reader.ensures

pub returns-then-not-branch-clause-form : goal.returns-then-not-branch-clause-form
returns-then-not-branch-clause-form c at is =
    let same : c.loop-at.at ≡ at = cc in
    subst (IsNoPattern c.args.bytes.now) same (read-refused c.args.bytes.now c.loop-at.at c.loop-at.reader c.feed.new.self c.in_ok-feed.field-0 (omega arith) c.loop-at.invariant c.in_ok-feed.ensures c.if-not-branch.true)

pub loop-at-preserved : goal.loop-at-preserved
loop-at-preserved c = read-on c.args.bytes.now c.loop-at.at c.loop-at.reader c.feed.new.self c.in_ok-feed.field-0 (omega arith) c.loop-at.invariant c.in_ok-feed.ensures c.if-not-branch.false

pub returns-in-Some-clause-pattern : goal.returns-in-Some-clause-pattern
returns-in-Some-clause-pattern c =
    read-whole c.args.bytes.now c.loop-at.at c.loop-at.reader (omega arith) c.loop-at.invariant c.in-Some.lexeme (λ σ h. sym c.in-Some.is ∙ c.in_ok-lexeme.ensures σ h)

pub returns-in-Some-clause-only : goal.returns-in-Some-clause-only
returns-in-Some-clause-only c =
    read-only c.args.bytes.now c.loop-at.at c.loop-at.reader (omega arith) c.loop-at.invariant c.in-Some.lexeme (λ σ h. sym c.in-Some.is ∙ c.in_ok-lexeme.ensures σ h)

pub returns-in-None-clause-form : goal.returns-in-None-clause-form
returns-in-None-clause-form c at is =
    let same : length c.args.bytes.now ≡ at = cc in
    subst (IsNoPattern c.args.bytes.now) same (read-ends c.args.bytes.now c.loop-at.at c.loop-at.reader (omega arith) c.loop-at.invariant (λ σ h. sym c.in-None.is ∙ c.in_ok-lexeme.ensures σ h))
