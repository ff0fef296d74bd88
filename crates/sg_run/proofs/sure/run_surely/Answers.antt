use Rattle.std.proofs.Common.{◌≡◌, ◌≤◌, ℕ, zero, suc, List, [], ◌∷◌, map, string_bytes, refl, arith}
use Rattle.std.specs.Prelude.{All}
use Rattle.std.proofs.lemmas.List.Elements.{All-nil, All-cons, All-contains}
use Rattle.sg_outside.specs.Count.{raised, raised_by}
use Rattle.sg_replies.specs.declared.reply.Reply.{Reply}
use Rattle.sg_replies.specs.Requests.{failure, failures}
use Rattle.sg_replies.proofs.Laws.{≤-raised_by}
use Rattle.sg_output.specs.Job.{job}
use Rattle.sg_output.proofs.CauseLaws.{failures_counted}
use Rattle.sg_run.proofs.sure.run_surely.Goals as goal

-- a count that stayed at 0 was not raised
none : (n : ℕ) → raised_by n 0 ≤ 0 → n ≡ 0
none zero le = refl
none (suc n) le = let more = ≤-raised_by n (raised 0) (omega arith) in absurd (omega (arith, le, more))

none_failed : (replies : List Reply) → failures replies ≡ 0 → All (λ reply. failure reply ≡ 0) replies
none_failed [] e = All-nil (λ reply. failure reply ≡ 0)
none_failed (reply ∷ replies) e = All-cons (λ reply. failure reply ≡ 0) reply replies (omega (arith, e)) (none_failed replies (omega (arith, e)))

pub returns-clause-no_sink_fault : goal.returns-clause-no_sink_fault
returns-clause-no_sink_fault c = λ is. let rose = c.run.ensures.sink_fault is in omega (arith, rose)

pub returns-clause-no_read_fault : goal.returns-clause-no_read_fault
returns-clause-no_read_fault c = λ is. let rose = (c.run.ensures.read_fault is).1 in omega (arith, rose)

pub returns-clause-no_failure : goal.returns-clause-no_failure
returns-clause-no_failure c = λ reply there.
    let counted = failures_counted (job (map string_bytes c.args.words.now)) _ _ _ _ c.run.ensures.known (λ r right. (c.run.ensures.ran r right).ends) in
    let all = none_failed c.run.result.replies.items (none (failures c.run.result.replies.items) counted) in
    All-contains (λ reply. failure reply ≡ 0) c.run.result.replies.items reply all there

pub returns-clause-files : goal.returns-clause-files
returns-clause-files c = λ r right. (c.run.ensures.ran r right).ends.served.files

pub returns-clause-complete : goal.returns-clause-complete
returns-clause-complete c = c.run.ensures.complete (λ rose. omega (arith, rose)) (λ rose. omega (arith, rose))
