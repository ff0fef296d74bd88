use Rattle.std.proofs.Common.{arith, length-drop, length-take-le, sym, ap, ◌∙◌, take, drop}
use Rattle.std.proofs.lemmas.Result.{err_from_is_err_and}
use Rattle.sg_text.proofs.TokenLemmas.{form-within, scanned-all, scanned-fault, scanned-more, rest-is, newlines}
use Rattle.sg_text.proofs.TokenLaws.{tokens_of-all, tokens_of-ordered}
use Rattle.sg_text.proofs.scanner.lex.Goals as goal

-- the form lies within the text
pub add_form-requires : goal.add_form-requires
add_form-requires c =
    let l = c.loop-at in
    let fits = form-within c.args.bytes.now l.tokens.items l.at l.line l.invariant c.loop-at-test.true c.form_at-form.result c.form_at-form.ensures in
    omega (arith, fits)

pub returns-in_err-len-clause-fault : goal.returns-in_err-len-clause-fault
returns-in_err-len-clause-fault c =
    let l = c.loop-at in
    let p = err_from_is_err_and c.from_residual.result c.from_residual.ensures.1 in
    rw (p.1, p.2) (λ other. scanned-fault c.args.bytes.now l.tokens.items l.at l.line l.invariant c.loop-at-test.true c.form_at-form.result c.form_at-form.ensures c.in_err-len.field-0.0 (c.in_err-len.ensures.fault other))

pub slice_bounds-newlines-end : goal.slice_bounds-newlines-end
slice_bounds-newlines-end c =
    let l = c.loop-at in
    let fits = form-within c.args.bytes.now l.tokens.items l.at l.line l.invariant c.loop-at-test.true c.form_at-form.result c.form_at-form.ensures in
    rw (rest-is c.args.bytes.now l.at) (sym (length-take-le c.in_ok-len.len (drop l.at c.args.bytes.now) (omega (arith, fits, c.in_ok-len.ensures.len, length-drop l.at c.args.bytes.now))))

pub overflow_add-at : goal.overflow_add-at
overflow_add-at c =
    let l = c.loop-at in
    let fits = form-within c.args.bytes.now l.tokens.items l.at l.line l.invariant c.loop-at-test.true c.form_at-form.result c.form_at-form.ensures in
    omega (arith, fits, c.in_ok-len.ensures.len)

pub loop-at-smaller : goal.loop-at-smaller
loop-at-smaller c =
    let l = c.loop-at in
    let fits = form-within c.args.bytes.now l.tokens.items l.at l.line l.invariant c.loop-at-test.true c.form_at-form.result c.form_at-form.ensures in
    omega (arith, fits, c.in_ok-len.ensures.len)

pub loop-at-preserved : goal.loop-at-preserved
loop-at-preserved c =
    let l = c.loop-at in
    scanned-more c.args.bytes.now l.tokens.items l.at l.line l.invariant c.loop-at-test.true c.form_at-form.result c.form_at-form.ensures c.add_form.new.tokens.items c.in_ok-len.len c.newlines-line.result c.in_ok-len.ensures.len c.in_ok-len.ensures.added (c.newlines-line.ensures.value ∙ ap (λ w. newlines (take c.in_ok-len.len w)) (rest-is c.args.bytes.now l.at))

pub returns-clause-each : goal.returns-clause-each
returns-clause-each c =
    let l = c.loop-at in
    tokens_of-all c.args.bytes.now l.tokens.items (scanned-all c.args.bytes.now l.tokens.items l.at l.line l.invariant (omega arith))

pub returns-clause-in_order : goal.returns-clause-in_order
returns-clause-in_order c =
    let l = c.loop-at in
    tokens_of-ordered c.args.bytes.now l.tokens.items (scanned-all c.args.bytes.now l.tokens.items l.at l.line l.invariant (omega arith))
