use Rattle.std.proofs.Common.{◌≡◌, length, arith, subst}
use Rattle.sg_saved_form.specs.Files.{IsNoFile}
use Rattle.sg_saved_form.proofs.ReadSoFar.{read-none, read-on, read-refused, read-whole, read-ends}
use Rattle.sg_saved_form.proofs.reading.outline_of.Goals as goal

pub loop-at-init : goal.loop-at-init
loop-at-init c = read-none c.args.bytes.now c.new-reader.result c.new-reader.ensures

pub returns-then-not-branch-clause-form : goal.returns-then-not-branch-clause-form
returns-then-not-branch-clause-form c at is =
    let same : c.loop-at.at ≡ at = cc in
    subst (IsNoFile c.args.bytes.now) same (read-refused c.args.bytes.now c.loop-at.at c.loop-at.reader c.feed.new.self c.in_ok-feed.field-0 (omega arith) c.loop-at.invariant c.in_ok-feed.ensures c.if-not-branch.true)

pub loop-at-preserved : goal.loop-at-preserved
loop-at-preserved c = read-on c.args.bytes.now c.loop-at.at c.loop-at.reader c.feed.new.self c.in_ok-feed.field-0 (omega arith) c.loop-at.invariant c.in_ok-feed.ensures c.if-not-branch.false

pub returns-in-Some-clause-file : goal.returns-in-Some-clause-file
returns-in-Some-clause-file c =
    let to = c.loop-at.invariant in
    let e = c.in-Some.ensures to.state to.reads in
    read-whole c.args.bytes.now c.loop-at.at c.loop-at.reader (omega arith) to c.in-Some.outline e.0 e.1 e.2 e.3

pub returns-in-None-clause-form : goal.returns-in-None-clause-form
returns-in-None-clause-form c at is =
    let same : length c.args.bytes.now ≡ at = cc in
    let to = c.loop-at.invariant in
    subst (IsNoFile c.args.bytes.now) same (read-ends c.args.bytes.now c.loop-at.at c.loop-at.reader (omega arith) to (c.in-None.ensures to.state to.reads))
