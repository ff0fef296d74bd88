use Rattle.std.proofs.Common.{◌≡◌, ◌<◌, ◌≤◌, [], List, length, sym, ap, ◌∙◌, subst, arith}
use Rattle.std.proofs.lemmas.List.{get_or_read}
use Rattle.sg_grammar.specs.declared.grammar.Production.{Production}
use Rattle.sg_lalr.specs.declared.table.Action.TheVariants as action
use Rattle.sg_lalr.specs.Automaton.{moves_at, move_at, IsSorted}
use Rattle.sg_lalr.specs.Reductions.{ReducesBy, reductions_at}
use Rattle.sg_lalr.specs.Tables.{View, IsAction}
use Rattle.sg_lalr.proofs.TableLemmas.{moves-there, kept-sorted, kept-acts, kept-shifts, kept-stop}
use Rattle.sg_lalr.proofs.table.Tables.action.Goals as goal

pub move_on-requires : goal.move_on-requires
move_on-requires c =
    let t = c.self.inside in
    let s = c.args.state in
    let low : s < length t.cores.items = subst (λ (v : View). s < length v.cores) (sym c.self.view_is) c.requires.state in
    let there = moves-there t.grammar c.sound.ensures t.cores.items t.moves.items t.reductions.items c.self.invariant s low in
    let row : c.as_slice-in-None.result.now ≡ moves_at t.moves.items s = c.as_slice-in-None.ensures ∙ get_or_read t.moves.items s c.index-in-None.result.now there c.index-in-None.ensures [] in
    subst IsSorted (sym row) (kept-sorted t.grammar c.sound.ensures t.cores.items t.moves.items t.reductions.items c.self.invariant s low)

pub index-requires : goal.index-requires
index-requires c =
    let t = c.self.inside in
    let s = c.args.state in
    let low : s < length t.cores.items = subst (λ (v : View). s < length v.cores) (sym c.self.view_is) c.requires.state in
    let count = c.self.invariant.count in
    let long = t.reductions.ok.0 in
    omega (arith, low, count, long)

pub index-requires-in-None : goal.index-requires-in-None
index-requires-in-None c =
    let t = c.self.inside in
    let s = c.args.state in
    let low : s < length t.cores.items = subst (λ (v : View). s < length v.cores) (sym c.self.view_is) c.requires.state in
    let there = moves-there t.grammar c.sound.ensures t.cores.items t.moves.items t.reductions.items c.self.invariant s low in
    let long = t.moves.ok.0 in
    omega (arith, there, long)

pub returns-in-Some : goal.returns-in-Some
returns-in-Some c =
    let t = c.self.inside in
    let s = c.args.state in
    let low : s < length t.cores.items = subst (λ (v : View). s < length v.cores) (sym c.self.view_is) c.requires.state in
    let count = c.self.invariant.count in
    let reductions : c.as_slice.result.now ≡ reductions_at t.reductions.items s = c.as_slice.ensures ∙ get_or_read t.reductions.items s c.index.result.now (omega (arith, low, count)) c.index.ensures [] in
    let p = c.in-Some.p in
    let by : ReducesBy (reductions_at t.reductions.items s) p c.args.terminal = subst (λ rs. ReducesBy rs p c.args.terminal) reductions c.in-Some.ensures.some in
    subst (λ (v : View). IsAction v s c.args.terminal (action.Reduce p)) c.self.view_is
    (subst (λ (r : List Production). p < length r) c.rules.ensures c.if-p-rules.true, kept-acts t.grammar c.sound.ensures t.cores.items t.moves.items t.reductions.items c.self.invariant s low p c.args.terminal by)

pub returns-in-Some-2 : goal.returns-in-Some-2
returns-in-Some-2 c =
    let t = c.self.inside in
    let s = c.args.state in
    let low : s < length t.cores.items = subst (λ (v : View). s < length v.cores) (sym c.self.view_is) c.requires.state in
    let count = c.self.invariant.count in
    let reductions : c.as_slice.result.now ≡ reductions_at t.reductions.items s = c.as_slice.ensures ∙ get_or_read t.reductions.items s c.index.result.now (omega (arith, low, count)) c.index.ensures [] in
    let p = c.in-Some.p in
    let by : ReducesBy (reductions_at t.reductions.items s) p c.args.terminal = subst (λ rs. ReducesBy rs p c.args.terminal) reductions c.in-Some.ensures.some in
    subst (λ (v : View). IsAction v s c.args.terminal action.Accept) c.self.view_is
    (p, subst (λ (r : List Production). length r ≤ p) c.rules.ensures c.if-p-rules.false, kept-acts t.grammar c.sound.ensures t.cores.items t.moves.items t.reductions.items c.self.invariant s low p c.args.terminal by)

pub returns-in-Some-move_on : goal.returns-in-Some-move_on
returns-in-Some-move_on c =
    let t = c.self.inside in
    let s = c.args.state in
    let low : s < length t.cores.items = subst (λ (v : View). s < length v.cores) (sym c.self.view_is) c.requires.state in
    let there = moves-there t.grammar c.sound.ensures t.cores.items t.moves.items t.reductions.items c.self.invariant s low in
    let row : c.as_slice-in-None.result.now ≡ moves_at t.moves.items s = c.as_slice-in-None.ensures ∙ get_or_read t.moves.items s c.index-in-None.result.now there c.index-in-None.ensures [] in
    subst (λ (v : View). IsAction v s c.args.terminal (action.Shift c.in-Some-move_on.u)) c.self.view_is
    (kept-shifts t.grammar c.sound.ensures t.cores.items t.moves.items t.reductions.items c.self.invariant s low c.args.terminal c.in-Some-move_on.u c.as_slice-in-None.result.now row c.in-Some-move_on.ensures.some)

pub returns-in-None-move_on : goal.returns-in-None-move_on
returns-in-None-move_on c =
    let t = c.self.inside in
    let s = c.args.state in
    let low : s < length t.cores.items = subst (λ (v : View). s < length v.cores) (sym c.self.view_is) c.requires.state in
    let count = c.self.invariant.count in
    let reductions : c.as_slice.result.now ≡ reductions_at t.reductions.items s = c.as_slice.ensures ∙ get_or_read t.reductions.items s c.index.result.now (omega (arith, low, count)) c.index.ensures [] in
    let there = moves-there t.grammar c.sound.ensures t.cores.items t.moves.items t.reductions.items c.self.invariant s low in
    let row : c.as_slice-in-None.result.now ≡ moves_at t.moves.items s = c.as_slice-in-None.ensures ∙ get_or_read t.moves.items s c.index-in-None.result.now there c.index-in-None.ensures [] in
    subst (λ (v : View). IsAction v s c.args.terminal action.Stop) c.self.view_is
    (kept-stop t.grammar c.sound.ensures t.cores.items t.moves.items t.reductions.items c.self.invariant s low c.args.terminal
    (λ p h. c.in-None.ensures.none p (subst (λ rs. ReducesBy rs p c.args.terminal) (sym reductions) h))
    (λ k l is. c.in-None-move_on.ensures.none k (subst (λ r. k < length r) (sym row) l) (ap (λ r. (move_at r k).symbol) row ∙ is)))
