use Rattle.std.proofs.Common.{◌≡◌, ℕ, suc, ◌++◌, map, ap, ◌∙◌, arith}
use Rattle.sg_kinds.specs.Instances.{below}
use Rattle.sg_kinds.specs.declared.fault.PrintedSymbol.TheVariants.{Name}
use Rattle.sg_reports.specs.Symbols.{level_name, level_symbols}
use Rattle.sg_reports.proofs.symbols.push_levels.Goals as goal

pub returns : goal.returns
unfolding level_symbols
returns c =
    let count : c.loop-level.level ≡ suc c.args.last = omega (arith, c.loop-level-test.false, c.loop-level.auto.level-end) in
    c.loop-level.invariant ∙ ap (λ (k : ℕ). c.args.symbols.now.items ++ map (λ (i : ℕ). Name (level_name c.args.told c.args.name.now c.args.last i)) (below k)) count
