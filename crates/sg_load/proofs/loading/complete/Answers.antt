use Rattle.std.proofs.Common.{◌≡◌, [], ◌∷◌, sym, ap, ◌∙◌, subst}
use Rattle.std.proofs.lemmas.Result.{err_from_is_err_and}
use Rattle.sg_kinds.specs.Sound.{IsSound}
use Rattle.sg_kinds.specs.Specification.{rules_of}
use Rattle.sg_kinds.specs.ValidPlans.{AreValid}
use Rattle.sg_kinds.specs.declared.spec.Spec.{Spec}
use Rattle.sg_ast.specs.View.{trees_of}
use Rattle.sg_grammar.specs.Numbered.{grammar_of}
use Rattle.sg_load.specs.FirstFault.Phase.{Tables, Order}
use Rattle.sg_patterns.specs.LexemesOf.{AreLexemesOf}
use Rattle.sg_load.proofs.FirstLaws.{here, later}
use Rattle.sg_load.proofs.loading.complete.Goals as goal

pub returns-in_err-tables-clause-fault : goal.returns-in_err-tables-clause-fault
returns-in_err-tables-clause-fault c =
    let p = err_from_is_err_and c.from_residual.result c.from_residual.ensures.1 in
    rw (p.1, p.2) (λ some. here (trees_of c.args.decls.now) Tables (Order ∷ []) c.in_err-tables.field-0.0 (c.in_err-tables.ensures.fault some))

pub returns-in_err-spec-clause-fault : goal.returns-in_err-spec-clause-fault
returns-in_err-spec-clause-fault c =
    let p = err_from_is_err_and c.from_residual-in_err-spec.result c.from_residual-in_err-spec.ensures.1 in
    rw (p.1, p.2) (λ some. later (trees_of c.args.decls.now) Tables (Order ∷ []) c.in_err-spec.field-0.0 c.in_ok-tables.ensures.none
    (here (trees_of c.args.decls.now) Order [] c.in_err-spec.field-0.0 (c.in_err-spec.ensures.fault some)))

pub invariant_of-result : goal.invariant_of-result
invariant_of-result c =
    let same : c.in_ok-spec.spec ≡ c.args.spec = c.in_ok-spec.ensures.same in
    let lexemes : AreLexemesOf c.args.spec c.in_ok-lexemes.lexemes = record {
      first = c.in_ok-lexemes.ensures.first;
      literals = c.in_ok-lexemes.ensures.literals;
      patterns = c.in_ok-lexemes.ensures.patterns;
      blank = c.in_ok-lexemes.ensures.blank;
    } in
    record {
      sound = subst IsSound (sym same) c.requires.sound;
      plans = subst (λ (s : Spec). AreValid (rules_of s) c.in_ok-spec.plans) (sym same) c.in_ok-spec.ensures.plans;
      tables = c.in_ok-tables.ensures.tables ∙ ap grammar_of (sym same);
      lexemes = subst (λ (s : Spec). AreLexemesOf s c.in_ok-lexemes.lexemes) (sym same) lexemes;
    }
