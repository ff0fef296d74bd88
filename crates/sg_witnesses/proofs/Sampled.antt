-- What is told of samples, by its parts.
use Rattle.std.proofs.Common.{◌≡◌, ℕ, List, sym, subst, Ok}
use Rattle.sg_kinds.specs.Values.{Bytes}
use Rattle.sg_kinds.specs.declared.fault.PrintedConflict.{PrintedConflict}
use Rattle.sg_kinds.specs.declared.fault.SpecFault.{SpecFault}
use Rattle.sg_kinds.specs.declared.spec.Spec.{Spec}
use Rattle.sg_ast.specs.Declarations.{Decl}
use Rattle.sg_grammar.specs.Grammar.{Grammar}
use Rattle.sg_grammar.specs.Numbered.{grammar_of}
use Rattle.sg_lalr.specs.declared.items.Item.{Item}
use Rattle.sg_lalr.specs.declared.table.TableFault.TheVariants.{Conflict}
use Rattle.sg_lalr.specs.Tables.{IsTableFault}
use Rattle.sg_samples.specs.Samples.{AreBarren, IsSample}
use Rattle.sg_faults.specs.FaultLine.{fault_line}
use Rattle.sg_reports.specs.Tables.{printed_table}
use Rattle.sg_load.specs.Trees.{trees_in}
use Rattle.sg_load.specs.Only.{IsTheSpec}
use Rattle.sg_witnesses.specs.Samples.{IsPrefix, IsSampled, TellsConflict, TellsBarren, conflict_lines, barren_text}

pub is_prefix : (ds : List Decl) (spec : Spec) (f : SpecFault) (w : List ℕ) (g : Grammar) (v : List ℕ) (t : ℕ) (i j : Item) → w ≡ v → IsTableFault g (Conflict v t i j) → g ≡ grammar_of spec
    → fault_line (printed_table spec ds (Conflict v t i j)) ≡ fault_line f → IsPrefix ds spec f w
is_prefix ds spec f w g v t i j copied least of-spec same = subst (IsPrefix ds spec f) (sym copied) (record {
  terminal = t;
  first = i;
  second = j;
  least = subst (λ h. IsTableFault h (Conflict v t i j)) of-spec least;
  same = same;
})

pub is_sampled : (ds : List Decl) (spec : Spec) (f : SpecFault) (g : Grammar) (w v Xs : List ℕ) → g ≡ grammar_of spec → v ≡ w → IsPrefix ds spec f w → IsSample g v Xs → IsSampled ds spec f Xs
is_sampled ds spec f g w v Xs of-spec copied prefix sample = record {
  prefix = w;
  is_prefix = prefix;
  is_sample = subst (λ u. IsSample (grammar_of spec) u Xs) copied (subst (λ h. IsSample h v Xs) of-spec sample);
}

pub tells_conflict : (bytes : Bytes) (f : SpecFault) (c : PrintedConflict) (text : Bytes) (ds : List Decl) (spec : Spec) (Xs : List ℕ) → trees_in bytes ≡ Ok ds → IsTheSpec ds spec → IsSampled ds spec f Xs → text ≡ conflict_lines spec Xs c → TellsConflict bytes f c text
tells_conflict bytes f c text ds spec Xs are the sampled is = record {
  decls = ds;
  spec = spec;
  has = record { are = are; the = the };
  sample = Xs;
  sampled = sampled;
  is = is;
}

pub tells_barren : (bytes text : Bytes) (ds : List Decl) (spec : Spec) (g : Grammar) (Xs : List ℕ) → trees_in bytes ≡ Ok ds → IsTheSpec ds spec → g ≡ grammar_of spec → AreBarren g Xs → text ≡ barren_text spec Xs → TellsBarren bytes text
tells_barren bytes text ds spec g Xs are the of-spec barren is = record {
  decls = ds;
  spec = spec;
  has = record { are = are; the = the };
  barren = Xs;
  are = subst (λ h. AreBarren h Xs) of-spec barren;
  is = is;
}
