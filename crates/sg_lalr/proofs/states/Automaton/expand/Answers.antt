use Rattle.std.proofs.Common.{Vec, Global, ◌≡◌, ℕ, ◌+◌, ◌<◌, ◌∙◌, ◌++◌, ◌∷◌, [], List, sym, ap, subst, map, set, length, get_or, arith}
use Rattle.std.specs.Prelude.{slice_index}
use Rattle.std.proofs.lemmas.List.{length-map, get_or-map, get_or_default, get_or_past, map-set}
use Rattle.sg_grammar.specs.Grammar.{Grammar}
use Rattle.sg_grammar.specs.WellFormed.{IsWellFormed}
use Rattle.sg_lalr.specs.Items.{Item, advance}
use Rattle.sg_lalr.specs.Automaton.{IsListed, IsSpread}
use Rattle.sg_lalr.proofs.MoveLemmas.{next-within}
use Rattle.sg_lalr.proofs.SpreadLemmas.{IsLeft, listed-next, listed-least, listed-behind, listed-rises, left-all, left-fewer, left-none}
use Rattle.sg_lalr.proofs.PartLemmas.{Expanding, start-row, more-row, overflow-row, end-row}
use Rattle.sg_lalr.proofs.states.Automaton.expand.Goals as goal

-- the list as the loop reads it
listed-read : (g : Grammar) (core read : List Item) (symbols xs : List ℕ) → read ≡ core → xs ≡ symbols → IsListed g read symbols → IsListed g core xs
listed-read g core read symbols xs e is h = subst (IsListed g core) (sym is) (subst (λ l. IsListed g l symbols) e h)

-- the row of the symbol at a place is there
within : (g : Grammar) (core : List Item) (xs : List ℕ) → IsListed g core xs → IsWellFormed g → (k : ℕ) → k < length xs → {long : ℕ} (rows : List (Vec Item Global)) → IsLeft g core xs k (map (λ k. k.items) rows) → long ≡ length rows → slice_index xs k < long
within g core xs listed formed k l rows left is =
    let low = next-within g formed core (slice_index xs k) (listed-next g core xs listed k l) in
    let count = left.count in
    omega (arith, low, count, length-map rows (λ k. k.items), is)

pub index-requires : goal.index-requires
index-requires c =
    let g = c.args.g.now in
    let core = c.in_ok-core.core.items in
    let xs = c.as_slice-x-items.result.now in
    let listed = listed-read g core c.deref.result.now c.in_ok-symbols.symbols.items xs c.deref.ensures.value c.as_slice-x-items.ensures.value c.in_ok-symbols.ensures.listed in
    within g core xs listed c.sound.ensures c.loop-x.x-index c.loop-x-test.true c.loop-x.rows.items c.loop-x.invariant.left c.loop-x.rows.ok.0

pub index_mut-requires : goal.index_mut-requires
index_mut-requires c =
    let g = c.args.g.now in
    let core = c.in_ok-core.core.items in
    let xs = c.as_slice-x-items.result.now in
    let listed = listed-read g core c.deref.result.now c.in_ok-symbols.symbols.items xs c.deref.ensures.value c.as_slice-x-items.ensures.value c.in_ok-symbols.ensures.listed in
    within g core xs listed c.sound.ensures c.loop-x.x-index c.loop-x-test.true c.loop-x.rows.items c.loop-x.invariant.left c.loop-x.rows.ok.0

pub loop-x-init : goal.loop-x-init
loop-x-init c =
    let g = c.args.g.now in
    let keys = c.args.self.now.kernels.keys in
    let cores = c.args.self.now.cores in
    let core = c.in_ok-core.core.items in
    let s = c.len-state.result in
    let here : length cores.items ≡ s = omega (arith, c.len-state.ensures, cores.ok.0) in
    let long : length (map (λ k. k.items) keys) ≡ length keys = length-map keys (λ k. k.items) in
    let next = c.requires.next in
    let few = c.requires.few in
    let moves = c.requires.moves in
    let xs = c.as_slice-x-items.result.now in
    let listed = listed-read g core c.deref.result.now c.in_ok-symbols.symbols.items xs c.deref.ensures.value c.as_slice-x-items.ensures.value c.in_ok-symbols.ensures.listed in
    let rows = map (λ k. k.items) c.spread.new.rows.items in
    record {
      expanding = start-row g cores.items core c.args.self.now.moves.items s here (map (λ k. k.items) keys) c.args.self.now.origins.items c.new-row.result.items (get_or xs 0 g.symbols) c.requires.part (omega (arith, next, here, long)) c.in_ok-core.ensures
          (listed-least g core xs listed) c.new-row.ensures.items;
      left = left-all g core xs listed c.sound.ensures rows (subst (λ l. IsSpread g l rows) c.deref.ensures.value c.in_ok-symbols.ensures.spread);
      cores = here;
      moves = omega (arith, moves, here);
      state = sym here;
      few = few;
      short = omega (arith, next, few, here);
    }

pub returns-in_default-clause-full : goal.returns-in_default-clause-full
returns-in_default-clause-full c =
    let g = c.args.g.now in
    let full = rw c.in_default.is at c.in_ok-target.ensures.full in
    let core = c.in_ok-core.core.items in
    let l = c.loop-x in
    let inv = l.invariant in
    let keys = l.self.kernels.keys in
    let long : length (map (λ k. k.items) keys) ≡ length keys = length-map keys (λ k. k.items) in
    let count = full.0 in
    let xs = c.as_slice-x-items.result.now in
    let listed = listed-read g core c.deref.result.now c.in_ok-symbols.symbols.items xs c.deref.ensures.value c.as_slice-x-items.ensures.value c.in_ok-symbols.ensures.listed in
    let under = c.loop-x-test.true in
    let x = slice_index xs l.x-index in
    let next = listed-next g core xs listed l.x-index under in
    let low : x < g.symbols = next-within g c.sound.ensures core x next in
    let rows = l.rows.items in
    let all : length rows ≡ g.symbols = sym (length-map rows (λ k. k.items)) ∙ inv.left.count in
    let is : c.as_slice-kernel.result.now ≡ advance g x core = c.as_slice-kernel.ensures.value ∙ ap (λ v. v.items) c.index.ensures ∙ sym (get_or-map (λ k. k.items) rows x c.index.result.now [] (omega (arith, low, all))) ∙ inv.left.left l.x-index (omega arith) under in
    let expanding = subst (Expanding g (map (λ k. k.items) keys) (l.self.cores.items ++ core ∷ []) l.self.moves.items l.self.origins.items l.row.items c.len-state.result) (get_or_default xs l.x-index g.symbols 0 under) inv.expanding in
    overflow-row g l.self.cores.items core l.self.moves.items c.len-state.result inv.cores (map (λ k. k.items) keys) l.self.origins.items l.row.items c.as_slice-kernel.result.now x expanding next is (long ∙ count) full.1

pub loop-x-preserved : goal.loop-x-preserved
loop-x-preserved c =
    let g = c.args.g.now in
    let entered = rw c.in-Some.is at c.in_ok-target.ensures.entered in
    let core = c.in_ok-core.core.items in
    let l = c.loop-x in
    let inv = l.invariant in
    let keys = l.self.kernels.keys in
    let xs = c.as_slice-x-items.result.now in
    let listed = listed-read g core c.deref.result.now c.in_ok-symbols.symbols.items xs c.deref.ensures.value c.as_slice-x-items.ensures.value c.in_ok-symbols.ensures.listed in
    let under = c.loop-x-test.true in
    let x = slice_index xs l.x-index in
    let next = listed-next g core xs listed l.x-index under in
    let low : x < g.symbols = next-within g c.sound.ensures core x next in
    let rows = l.rows.items in
    let all : length rows ≡ g.symbols = sym (length-map rows (λ k. k.items)) ∙ inv.left.count in
    let is : c.as_slice-kernel.result.now ≡ advance g x core = c.as_slice-kernel.ensures.value ∙ ap (λ v. v.items) c.index.ensures ∙ sym (get_or-map (λ k. k.items) rows x c.index.result.now [] (omega (arith, low, all))) ∙ inv.left.left l.x-index (omega arith) under in
    let expanding = subst (Expanding g (map (λ k. k.items) keys) (l.self.cores.items ++ core ∷ []) l.self.moves.items l.self.origins.items l.row.items c.len-state.result) (get_or_default xs l.x-index g.symbols 0 under) inv.expanding in
    let cleared = map-set (λ v. v.items) rows x c.clear.new.self ∙ ap (set (map (λ v. v.items) rows) x) c.clear.ensures.items in
    record {
      expanding = more-row g l.self.cores.items core l.self.moves.items c.len-state.result inv.cores (map (λ k. k.items) keys) (map (λ k. k.items) c.enter.new.kernels.keys) l.self.origins.items c.enter.new.origins.items
          l.row.items c.push.new.self.items c.as_slice-kernel.result.now x (get_or xs (l.x-index + 1) g.symbols) c.in-Some.target expanding next
          (listed-rises g core xs listed c.sound.ensures l.x-index under) (λ X. listed-behind g core xs listed l.x-index X under) is entered c.in_ok-push.ensures.items;
      left = subst (IsLeft g core xs (l.x-index + 1)) (sym cleared) (left-fewer g core xs listed c.sound.ensures l.x-index (map (λ v. v.items) rows) under inv.left);
      cores = inv.cores;
      moves = inv.moves;
      state = inv.state;
      few = c.in_ok-target.ensures.few;
      short = inv.short;
    }

pub returns-clause-part : goal.returns-clause-part
returns-clause-part c =
    let g = c.args.g.now in
    let l = c.loop-x in
    let inv = l.invariant in
    let core = c.in_ok-core.core.items in
    let xs = c.as_slice-x-items.result.now in
    let cores : c.push-2.new.self.items ≡ l.self.cores.items ++ core ∷ [] = c.in_ok-push-2.ensures.items ∙ ap (λ r. l.self.cores.items ++ r ∷ []) (c.new.ensures ∙ c.shrink_to_fit.ensures.items) in
    let moves : c.push-3.new.self.items ≡ l.self.moves.items ++ l.row.items ∷ [] = c.in_ok-push-3.ensures.items ∙ ap (λ r. l.self.moves.items ++ r ∷ []) (c.new-2.ensures ∙ c.shrink_to_fit-2.ensures.items) in
    let end : get_or xs l.x-index g.symbols ≡ g.symbols = get_or_past xs l.x-index g.symbols c.loop-x-test.false in
    rw (cores, moves)
    (end-row g l.self.cores.items core l.self.moves.items c.len-state.result inv.cores (map (λ k. k.items) l.self.kernels.keys) l.self.origins.items l.row.items (get_or xs l.x-index g.symbols) inv.expanding inv.moves
    (λ X h. let l = next-within g c.sound.ensures core X h in omega (arith, l, end)))

pub returns-clause-rows : goal.returns-clause-rows
returns-clause-rows c = sym (length-map c.loop-x.rows.items (λ k. k.items)) ∙ c.loop-x.invariant.left.count

pub returns-clause-empty : goal.returns-clause-empty
returns-clause-empty c =
    let g = c.args.g.now in
    let core = c.in_ok-core.core.items in
    let xs = c.as_slice-x-items.result.now in
    let listed = listed-read g core c.deref.result.now c.in_ok-symbols.symbols.items xs c.deref.ensures.value c.as_slice-x-items.ensures.value c.in_ok-symbols.ensures.listed in
    left-none g core xs listed c.sound.ensures c.loop-x.x-index (map (λ k. k.items) c.loop-x.rows.items) c.loop-x-test.false c.loop-x.invariant.left
