-- Reading and spelling are inverse.
use Rattle.std.proofs.Common.{◌≡◌, List, [], ◌∷◌, length, Some, None, sym, ap, ◌∙◌, arith}
use Rattle.std.specs.Prelude.{◌==◌}
use Rattle.std.proofs.lemmas.Bool.{eqb-true}
use Rattle.std.proofs.lemmas.Option.{same_Some}
use Rattle.sg_ast.specs.Declarations.{Decl}
use Rattle.sg_ast.specs.Spelling.{Mark}
use Rattle.sg_ast.specs.Readers.{Outcome}
use Rattle.sg_ast.specs.Reading.{declaration, entire, decl_of}
use Rattle.sg_ast.specs.Spells.{Spells}
use Rattle.sg_ast.proofs.Steps.{either}
use Rattle.sg_ast.proofs.DeclReads.{decl_reads}
use Rattle.sg_ast.proofs.DeclSpelled.{decl_read}

pub spelling_reads : (ms : List Mark) (d : Decl) → Spells ms d → decl_of ms ≡ Some d
unfolding decl_of
spelling_reads ms d is = ap entire (decl_reads d is.tree is.fits)

all_taken : (o : Outcome Decl) (d : Decl) → entire o ≡ Some d → o ≡ Some (d, [])
all_taken None d e = absurd (cc)
all_taken (Some (a, [])) d e = ap (λ (x : Decl). Some (x, [])) (same_Some a d e)
all_taken (Some (a, m ∷ ms)) d e =
    either (length (m ∷ ms) == 0) e
    (λ is e. let none : length (m ∷ ms) ≡ 0 = eqb-true (length (m ∷ ms)) 0 is in absurd (omega (arith, none)))
    (λ not e. absurd (cc))

pub reading_spells : (ms : List Mark) (d : Decl) → decl_of ms ≡ Some d → Spells ms d
unfolding decl_of
reading_spells ms d e =
    let is = decl_read (all_taken (declaration ms) d e) in record { tree = is.0; fits = is.1 }

pub one_tree : (ms : List Mark) (d e : Decl) → Spells ms d → Spells ms e → d ≡ e
one_tree ms d e first second = same_Some d e (sym (spelling_reads ms d first) ∙ spelling_reads ms e second)
