-- A record that is put together is that of the declarations.
use Rattle.std.proofs.Common.{◌≡◌, ◌∙◌, ℕ, List, flat_map, None}
use Rattle.sg_kinds.specs.Expressions.{Expr}
use Rattle.sg_kinds.specs.Lexemes.{Lexeme}
use Rattle.sg_kinds.specs.declared.spec.Scheme.{Scheme}
use Rattle.sg_kinds.specs.declared.spec.Function.{Function}
use Rattle.sg_kinds.specs.declared.spec.Transform.{Transform}
use Rattle.sg_kinds.specs.declared.spec.Production.{Production}
use Rattle.sg_kinds.specs.declared.spec.Entry.{Entry}
use Rattle.sg_kinds.specs.declared.spec.LevelLine.{LevelLine}
use Rattle.sg_kinds.specs.declared.views.Views.{Views}
use Rattle.sg_kinds.specs.declared.spec.Rule.{Rule}
use Rattle.sg_kinds.specs.declared.spec.Operator.{Operator}
use Rattle.sg_ast.specs.Declarations.{Decl}
use Rattle.sg_names.specs.declared.table.Table.{Table}
use Rattle.sg_names.specs.declared.table.Signature.{Signature}
use Rattle.sg_views.specs.Schemes.{schemes_of}
use Rattle.sg_views.specs.Views.{views_of}
use Rattle.sg_record.specs.Record.{record_of, recorded_exprs, with_schemes, with_bodies, bodies_in, transforms_in, productions_in, entry_at, levels_at}

pub assembled : (t : Table) (ds : List Decl) (rules : List Rule) (lexemes : List Lexeme) (ops before : List Operator) (schemes : ℕ → List Scheme) (exprs : List Expr) (functions : List Function) (bodies : List ℕ) (signatures : List Signature)
    (transforms : List Transform) (productions : List Production) (entries : List Entry) (levels : List LevelLine) (views : Views)
    → ops ≡ with_schemes schemes before → before ≡ t.ops → ((k : ℕ) → schemes k ≡ schemes_of t None ds k) → exprs ≡ recorded_exprs t ds
    → functions ≡ with_bodies bodies signatures → bodies ≡ bodies_in 0 ds → signatures ≡ t.functions → transforms ≡ transforms_in t 0 ds → productions ≡ productions_in t 0 ds → entries ≡ flat_map (entry_at t) ds
    → levels ≡ flat_map levels_at ds → views ≡ views_of t ds
    → record { phyla = t.phyla; ops = ops; exprs = exprs; rules = rules; functions = functions; transforms = transforms; lexemes = lexemes; productions = productions; entries = entries; levels = levels; views = views; root = t.root }
    ≡ record_of t ds rules lexemes
unfolding record_of
assembled t ds rules lexemes ops before schemes exprs functions bodies signatures transforms productions entries levels views o b s e f bs fs tr p en le vi =
    let of_ops : ops ≡ with_schemes (schemes_of t None ds) t.ops = o ∙ (λ i. with_schemes (λ k. s k i) (b i)) in
    let of_functions : functions ≡ with_bodies (bodies_in 0 ds) t.functions = f ∙ (λ i. with_bodies (bs i) (fs i)) in
    λ i. record { phyla = t.phyla; ops = of_ops i; exprs = e i; rules = rules; functions = of_functions i; transforms = tr i; lexemes = lexemes; productions = p i; entries = en i; levels = le i; views = vi i; root = t.root }
