use Rattle.std.proofs.lemmas.Result.{err_from_is_err_and}
use Rattle.sg_eval.specs.Journal.{now_of}
use Rattle.sg_groves.specs.TermAt.{term_at}
use Rattle.sg_exchanges.proofs.Swaps.{apart, asked, at_live, inherits}
use Rattle.sg_exchanges.proofs.Telling.{reaches_then}
use Rattle.sg_exchanges.proofs.Turning.{Does, swapped_turn, swapped_notes, swapped_tree, refused_first}
use Rattle.sg_exchanges.proofs.turns.exchanged.Goals as goal

pub replace-requires-clause-live : goal.replace-requires-clause-live
replace-requires-clause-live c = at_live c.args.terms.now c.facts.ensures c.args.root c.args.at c.args.detached c.requires.may.0 c.requires.may.1 c.requires.may.2

pub replace-requires-clause-apart : goal.replace-requires-clause-apart
replace-requires-clause-apart c = apart c.args.terms.now c.facts.ensures c.args.root c.args.at c.args.detached c.requires.may.0 c.requires.may.1 c.requires.may.2

pub replace-requires-clause-inherits : goal.replace-requires-clause-inherits
replace-requires-clause-inherits c = inherits c.args.terms.now c.facts.ensures c.args.root c.args.at c.args.detached c.requires.may.0 c.requires.may.1 c.requires.may.2

pub returns-in_err-done-clause-some : goal.returns-in_err-done-clause-some
returns-in_err-done-clause-some c = λ t u may.
    let g = c.args.terms.now in
    let p = err_from_is_err_and c.from_residual.result c.from_residual.ensures.1 in
    rw p.1 (refused_first g c.facts.ensures c.args.root c.args.at c.args.detached t u may _ _ (c.in_err-done.ensures.noted c.args.root t u (term_at g c.args.detached) (asked g c.facts.ensures c.args.root c.args.at c.args.detached t u may)))

pub returns-clause-turned : goal.returns-clause-turned
returns-clause-turned c = λ t u may.
    let e = c.in_ok-done.ensures in
    let does : Does c.args.terms.now c.replace.new.terms c.args.at c.args.detached (now_of c.args.journal.now) (now_of c.replace.new.journal) = record { right = e.right; term = e.term; evaluated = e.evaluated; links = e.links; freed = e.freed; roots = e.roots; terms = e.terms } in
    swapped_turn c.args.terms.now c.replace.new.terms c.facts.ensures c.facts-2.ensures e.spec c.args.root c.args.at c.args.detached _ _ does c.root_after-root.result c.root_after-root.ensures.here c.root_after-root.ensures.there t u may

pub returns-clause-noted : goal.returns-clause-noted
returns-clause-noted c = λ t u may.
    let e = c.in_ok-done.ensures in
    let does : Does c.args.terms.now c.replace.new.terms c.args.at c.args.detached (now_of c.args.journal.now) (now_of c.replace.new.journal) = record { right = e.right; term = e.term; evaluated = e.evaluated; links = e.links; freed = e.freed; roots = e.roots; terms = e.terms } in
    swapped_notes c.args.terms.now c.replace.new.terms c.facts.ensures c.facts-2.ensures e.spec c.args.root c.args.at c.args.detached _ _ does c.root_after-root.result c.root_after-root.ensures.here c.root_after-root.ensures.there t u may

pub returns-clause-reach : goal.returns-clause-reach
returns-clause-reach c = λ t u may.
    let g = c.args.terms.now in
    let e = c.in_ok-done.ensures in
    reaches_then g c.replace.new.terms c.facts.ensures c.args.root c.args.at c.args.detached t u may e.links.0 e.links.1 e.links.2
    c.root_after-root.result c.root_after-root.ensures.here c.root_after-root.ensures.there c.in_ok-done.done.reach
    (e.reach c.args.root t u (term_at g c.args.detached) (asked g c.facts.ensures c.args.root c.args.at c.args.detached t u may))

pub returns-clause-tree : goal.returns-clause-tree
returns-clause-tree c = λ t u may.
    let e = c.in_ok-done.ensures in
    let does : Does c.args.terms.now c.replace.new.terms c.args.at c.args.detached (now_of c.args.journal.now) (now_of c.replace.new.journal) = record { right = e.right; term = e.term; evaluated = e.evaluated; links = e.links; freed = e.freed; roots = e.roots; terms = e.terms } in
    swapped_tree c.args.terms.now c.replace.new.terms c.facts.ensures c.facts-2.ensures e.spec c.args.root c.args.at c.args.detached _ _ does c.root_after-root.result c.root_after-root.ensures.here c.root_after-root.ensures.there t u may
