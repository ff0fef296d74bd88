use Rattle.std.proofs.Common.{◌≡◌, ◌<◌, [], length, sym, ◌∙◌, subst, arith}
use Rattle.std.specs.Prelude.{IfSome, IfNone}
use Rattle.std.proofs.lemmas.List.{get_or_read}
use Rattle.sg_lalr.specs.Items.{HasNext}
use Rattle.sg_lalr.specs.Automaton.{row_at, moves_at, IsSorted}
use Rattle.sg_lalr.specs.Tables.{View, Leads}
use Rattle.sg_lalr.proofs.TableLemmas.{moves-there, kept-sorted, kept-after, kept-none}
use Rattle.sg_lalr.proofs.table.Tables.after.Goals as goal

pub index-requires : goal.index-requires
index-requires c =
    let t = c.self.inside in
    let low : c.args.state < length t.cores.items = subst (λ (v : View). c.args.state < length v.cores) (sym c.self.view_is) c.requires.state in
    let there = moves-there t.grammar c.sound.ensures t.cores.items t.moves.items t.reductions.items c.self.invariant c.args.state low in
    let long = t.moves.ok.0 in
    omega (arith, there, long)

pub move_on-requires : goal.move_on-requires
move_on-requires c =
    let t = c.self.inside in
    let s = c.args.state in
    let low : s < length t.cores.items = subst (λ (v : View). s < length v.cores) (sym c.self.view_is) c.requires.state in
    let there = moves-there t.grammar c.sound.ensures t.cores.items t.moves.items t.reductions.items c.self.invariant s low in
    let row : c.as_slice.result.now ≡ moves_at t.moves.items s = c.as_slice.ensures ∙ get_or_read t.moves.items s c.index.result.now there c.index.ensures [] in
    subst IsSorted (sym row) (kept-sorted t.grammar c.sound.ensures t.cores.items t.moves.items t.reductions.items c.self.invariant s low)

pub returns-clause-some : goal.returns-clause-some
returns-clause-some c =
    let t = c.self.inside in
    let s = c.args.state in
    let x = c.args.nonterminal in
    let low : s < length t.cores.items = subst (λ (v : View). s < length v.cores) (sym c.self.view_is) c.requires.state in
    let there = moves-there t.grammar c.sound.ensures t.cores.items t.moves.items t.reductions.items c.self.invariant s low in
    let row : c.as_slice.result.now ≡ moves_at t.moves.items s = c.as_slice.ensures ∙ get_or_read t.moves.items s c.index.result.now there c.index.ensures [] in
    subst (λ (v : View). IfSome c.move_on.result (λ u. HasNext v.grammar (row_at v.cores s) x × Leads v s x u)) c.self.view_is
    (kept-after t.grammar c.sound.ensures t.cores.items t.moves.items t.reductions.items c.self.invariant s low x c.move_on.result c.as_slice.result.now row c.move_on.ensures.some)

pub returns-clause-none : goal.returns-clause-none
returns-clause-none c =
    let t = c.self.inside in
    let s = c.args.state in
    let x = c.args.nonterminal in
    let low : s < length t.cores.items = subst (λ (v : View). s < length v.cores) (sym c.self.view_is) c.requires.state in
    let there = moves-there t.grammar c.sound.ensures t.cores.items t.moves.items t.reductions.items c.self.invariant s low in
    let row : c.as_slice.result.now ≡ moves_at t.moves.items s = c.as_slice.ensures ∙ get_or_read t.moves.items s c.index.result.now there c.index.ensures [] in
    subst (λ (v : View). IfNone c.move_on.result (HasNext v.grammar (row_at v.cores s) x → ⊥)) c.self.view_is
    (kept-none t.grammar c.sound.ensures t.cores.items t.moves.items t.reductions.items c.self.invariant s low x c.move_on.result c.as_slice.result.now row c.move_on.ensures.none)
