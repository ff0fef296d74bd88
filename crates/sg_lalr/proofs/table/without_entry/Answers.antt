use Rattle.std.proofs.Common.{[], length, ap, ◌∙◌, sym, subst, arith}
use Rattle.sg_grammar.specs.Grammar.{Grammar}
use Rattle.sg_grammar.specs.Derives.{AllProductive}
use Rattle.sg_lalr.proofs.TableLemmas.{few-without}
use Rattle.sg_lalr.proofs.table.without_entry.Goals as goal

pub invariant_of-result : goal.invariant_of-result
invariant_of-result c = record {
  kernels = [];
  origins = [];
  nodes = [];
  firsts = [];
  rows = [];
  made = record {
    productive = subst AllProductive (sym c.in_ok-grammar.ensures) c.requires.productive;
    none = λ e. c.new.ensures.items;
    full = λ some. absurd (let none = ap (λ (g : Grammar). length g.entries) c.in_ok-grammar.ensures ∙ c.requires.none in omega (arith, some, none));
  };
  count = let a = ap length c.new.ensures.items in let b = ap length c.new-3.ensures.items in omega (arith, a, b);
  reduces = λ s p t low. absurd (let a = ap length c.new.ensures.items in omega (arith, low, a));
}

pub returns-clause-fit : goal.returns-clause-fit
returns-clause-fit c = few-without c.args.g.now c.requires.none
