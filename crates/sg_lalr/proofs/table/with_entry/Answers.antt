use Rattle.std.proofs.Common.{ℕ, suc, ◌<◌, List, length, map, sym, ap, ◌∙◌, subst, arith}
use Rattle.std.specs.Prelude.{◌↔◌, slice_index}
use Rattle.sg_lalr.specs.Items.{Item}
use Rattle.sg_lalr.specs.Lookaheads.{IsLaid}
use Rattle.sg_lalr.specs.Reductions.{ReducesBy, DoesReduce, reductions_at}
use Rattle.sg_lalr.proofs.LookLemmas.{node-range}
use Rattle.sg_lalr.specs.Automaton.{IsWhole, Overflows}
use Rattle.sg_grammar.specs.Grammar.{Grammar}
use Rattle.sg_lalr.specs.Conflict.{IsQuiet}
use Rattle.sg_lalr.specs.Tables.{IsMade, IsKept}
use Rattle.sg_lalr.proofs.StateLemmas.{too-many, not-too-many}
use Rattle.sg_lalr.proofs.table.with_entry.Goals as goal

pub returns-in_default-clause-fault : goal.returns-in_default-clause-fault
returns-in_default-clause-fault c =
    let g = c.args.g.now in
    let over : Overflows g = rw c.in_default.is at c.in_ok-automaton.ensures.none in
    (c.requires.productive, too-many g c.sound.ensures c.requires.productive c.requires.entry over.kernels over.cores over.moves over.origins over.part over.full over.state over.symbol over.expanded over.next over.absent)

pub returns-in-Some-2-clause-fault : goal.returns-in-Some-2-clause-fault
returns-in-Some-2-clause-fault c =
    let g = c.args.g.now in
    let a = c.in-Some.automaton in
    let whole : IsWhole g (map (λ k. k.items) a.kernels.keys) a.cores.items a.moves.items a.origins.items = rw c.in-Some.is at c.in_ok-automaton.ensures.whole in
    (c.requires.productive, not-too-many g c.sound.ensures c.requires.productive c.requires.entry (map (λ k. k.items) a.kernels.keys) a.cores.items a.moves.items a.origins.items whole, rw c.in-Some-2.is at c.in_ok-found.ensures.some)

pub invariant_of-result : goal.invariant_of-result
invariant_of-result c =
    let g = c.args.g.now in
    let a = c.in-Some.automaton in
    let l = c.in_ok-looks.looks in
    let kernels = map (λ k. k.items) a.kernels.keys in
    let whole : IsWhole g kernels a.cores.items a.moves.items a.origins.items = rw c.in-Some.is at c.in_ok-automaton.ensures.whole in
    let quiet : IsQuiet g = rw c.in_default-2.is at c.in_ok-found.ensures.none in
    let all : IsMade g kernels a.cores.items a.moves.items a.origins.items l.layout.nodes.items l.layout.firsts.items l.rows.rows = record {
      productive = c.requires.productive;
      none = λ e. absurd (let some = c.requires.entry in omega (arith, some, e));
      full = λ some. record { whole = whole; laid = c.in_ok-looks.ensures.laid; exact = c.in_ok-looks.ensures.exact; quiet = quiet };
    } in
    let r = c.in_ok-reductions in
    let each : (s p t : ℕ) → s < length a.cores.items → ReducesBy (reductions_at r.reductions.items s) p t ↔ DoesReduce g l.layout.nodes.items l.rows.rows (slice_index l.layout.firsts.items s) (slice_index l.layout.firsts.items (suc s)) p t =
    λ s p t low. r.ensures.each s p t (subst (λ (cs : List (List Item)). s < length cs) (sym c.deref.ensures.value) low) in
    let kept : IsKept g a.cores.items a.moves.items r.reductions.items = record {
      kernels = kernels;
      origins = a.origins.items;
      nodes = l.layout.nodes.items;
      firsts = l.layout.firsts.items;
      rows = l.rows.rows;
      made = all;
      count = r.ensures.count ∙ ap length c.deref.ensures.value;
      reduces = each;
    } in
    subst (λ (h : Grammar). IsKept h a.cores.items a.moves.items r.reductions.items) (sym c.in_ok-grammar.ensures) kept

pub all_reductions-requires-clause-range : goal.all_reductions-requires-clause-range
all_reductions-requires-clause-range c =
    let g = c.args.g.now in
    let a = c.in-Some.automaton in
    let l = c.in_ok-looks.looks in
    let kernels = map (λ k. k.items) a.kernels.keys in
    let whole : IsWhole g kernels a.cores.items a.moves.items a.origins.items = rw c.in-Some.is at c.in_ok-automaton.ensures.whole in
    node-range g kernels a.cores.items a.moves.items a.origins.items whole l.layout.nodes.items l.layout.firsts.items c.in_ok-looks.ensures.laid

pub all_reductions-requires-clause-laid : goal.all_reductions-requires-clause-laid
all_reductions-requires-clause-laid c =
    let l = c.in_ok-looks.looks in
    subst (λ cs. IsLaid cs l.layout.nodes.items l.layout.firsts.items) (sym c.deref.ensures.value) c.in_ok-looks.ensures.laid

pub returns-clause-fit : goal.returns-clause-fit
returns-clause-fit c =
    let g = c.args.g.now in
    let a = c.in-Some.automaton in
    let whole : IsWhole g (map (λ k. k.items) a.kernels.keys) a.cores.items a.moves.items a.origins.items = rw c.in-Some.is at c.in_ok-automaton.ensures.whole in
    not-too-many g c.sound.ensures c.requires.productive c.requires.entry (map (λ k. k.items) a.kernels.keys) a.cores.items a.moves.items a.origins.items whole
