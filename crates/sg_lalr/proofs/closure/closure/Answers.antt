use Rattle.std.proofs.Common.{ℕ, ◌<◌, sym, subst}
use Rattle.std.specs.Prelude.{◌↔◌, Contains, AllPairs, slice_index_or}
use Rattle.sg_lalr.specs.Items.{Item}
use Rattle.sg_lalr.specs.Closure.{OpensAt}
use Rattle.sg_lalr.proofs.ClosureLemmas.{closure-from}
use Rattle.sg_lalr.proofs.OpeningLemmas.{opens-within, sorted-rising, sorted-exact}
use Rattle.sg_lalr.proofs.closure.closure.Goals as goal

pub merge-requires-clause-opened : goal.merge-requires-clause-opened
merge-requires-clause-opened c = subst (AllPairs ◌<◌) (sym c.deref.ensures.value) (sorted-rising c.in_ok-opened.opened.items c.sort.new.self.items c.in_ok-opened.ensures.apart c.sort.ensures.permutation c.in_ok-sort.ensures.sorted)

pub merge-requires-clause-dots : goal.merge-requires-clause-dots
merge-requires-clause-dots c k d l h =
    let g = c.args.g.now in
    let kernel = c.args.kernel.now in
    let P : ℕ → Type 0 = λ q. (i : Item) × Contains kernel i × OpensAt g i q in
    let q = (slice_index_or kernel k d).production in
    let o = (sorted-exact P c.in_ok-opened.opened.items c.sort.new.self.items c.sort.ensures.permutation c.in_ok-opened.ensures.exact q).0 (subst (λ s. Contains s q) c.deref.ensures.value h) in
    c.requires.kernel.dots k d l (opens-within g.rules o.2.0 q o.2.2)

pub returns : goal.returns
returns c =
    let g = c.args.g.now in
    let kernel = c.args.kernel.now in
    let P : ℕ → Type 0 = λ q. (i : Item) × Contains kernel i × OpensAt g i q in
    let exact : (q : ℕ) → Contains c.deref.result.now q ↔ P q = subst (λ s. (q : ℕ) → Contains s q ↔ P q) (sym c.deref.ensures.value) (sorted-exact P c.in_ok-opened.opened.items c.sort.new.self.items c.sort.ensures.permutation c.in_ok-opened.ensures.exact) in
    closure-from g kernel c.in_ok-items.items.items c.deref.result.now exact c.in_ok-items.ensures.has c.requires.kernel c.in_ok-items.ensures.rising
