-- The trees that are read of a text have values as their literals.
use Rattle.std.proofs.Common.{◌≡◌, ℕ, Bool, true, false, cond, List, [], ◌∷◌, length, Result, Ok, Err, refl, ap}
use Rattle.std.specs.Prelude.{nat_lt}
use Rattle.std.specs.List.{AllByRecursion}
use Rattle.sg_text.specs.declared.tokens.Token.{Token}
use Rattle.sg_text.specs.declared.tokens.LexFault.{LexFault}
use Rattle.sg_text.specs.Tokens.{tokens_of}
use Rattle.sg_kinds.specs.Values.{Bytes}
use Rattle.sg_kinds.specs.declared.fault.SpecFault.{SpecFault}
use Rattle.sg_kinds.specs.declared.fault.SpecFault.TheVariants.{TooLong}
use Rattle.sg_ast.specs.Declarations.{Decl}
use Rattle.sg_ast.specs.Spelling.{Mark}
use Rattle.sg_ast.specs.Spells.{EachSpells, declarations}
use Rattle.sg_ast.specs.Written.{HaveWritten}
use Rattle.sg_reader.specs.EachRead.{read_from}
use Rattle.sg_reader.proofs.Found.{all_spelled}
use Rattle.sg_load.specs.Trees.{read_trees, trees_with, trees_in}
use Rattle.sg_load.proofs.WrittenMarks.{HaveForms, taken_formed, declarations_formed}
use Rattle.sg_load.proofs.WrittenDecls.{decl_written}

-- trees that declarations in lexemes of their forms spell
spelled_written : (mss : List (List Mark)) (ds : List Decl) → EachSpells mss ds → AllByRecursion HaveForms mss → HaveWritten ds
spelled_written [] [] spells h = tt
spelled_written [] (d ∷ ds) spells h = absurd spells
spelled_written (ms ∷ mss) [] spells h = absurd spells
spelled_written (ms ∷ mss) (d ∷ ds) spells h =
    (decl_written d spells.0.tree (taken_formed spells.0.fits h.0), spelled_written mss ds spells.1 h.1)

trees_read : (r : Result (List Decl) (ℕ × ℕ)) (ds : List Decl) → read_trees r ≡ Ok ds → r ≡ Ok ds
trees_read (Ok es) ds e = let same : es ≡ ds = cc in ap Ok same
trees_read (Err x) ds e = absurd (cc)

-- what spells the trees of a text: declarations in lexemes of their forms
pub record AreRead (ds : List Decl) : Type 0 where
  pub marks : List (List Mark)
  pub spells : EachSpells marks ds
  pub formed : AllByRecursion HaveForms marks

tokens_read : (bytes : Bytes) (ds : List Decl) (r : Result (List Token) LexFault) → tokens_of bytes ≡ r → trees_with bytes r ≡ Ok ds → AreRead ds
tokens_read bytes ds (Ok tokens) is e =
    let mss = declarations bytes tokens in record {
      marks = mss;
      spells = all_spelled 0 mss ds (trees_read (read_from 0 mss) ds e);
      formed = declarations_formed bytes tokens is;
    }
tokens_read bytes ds (Err fault) is e = absurd (cc)

within : (b : Bool) (r : Result (List Decl) SpecFault) (ds : List Decl) → cond b (Err TooLong) r ≡ Ok ds → r ≡ Ok ds
within true r ds e = absurd (cc)
within false r ds e = e

pub trees_spelled : (bytes : Bytes) (ds : List Decl) → trees_in bytes ≡ Ok ds → AreRead ds
unfolding trees_in
trees_spelled bytes ds e =
    tokens_read bytes ds (tokens_of bytes) refl (within (nat_lt 1048576 (length bytes)) (trees_with bytes (tokens_of bytes)) ds e)

pub read_written : (bytes : Bytes) (ds : List Decl) → trees_in bytes ≡ Ok ds → HaveWritten ds
read_written bytes ds e = let read = trees_spelled bytes ds e in spelled_written read.marks ds read.spells read.formed
