-- A chain that is told.
use Rattle.std.proofs.Common.{◌≡◌, ◌<◌, ℕ, List, length, get_or, true, Some, subst}
use Rattle.std.proofs.lemmas.Option.{slice_get_read}
use Rattle.sg_kinds.specs.Specification.{phylum_of}
use Rattle.sg_kinds.specs.Values.{Bytes}
use Rattle.sg_kinds.specs.declared.fault.Position.{Position}
use Rattle.sg_ast.specs.Declarations.{Decl}
use Rattle.sg_names.specs.declared.table.Table.{Table}
use Rattle.sg_remote.specs.Atoms.{atoms}
use Rattle.sg_remote.specs.Longer.{names_of}
use Rattle.sg_remote.specs.declared.atoms.Atom.{Atom}
use Rattle.sg_unenclosed.specs.Unenclosed.{TellsBare, TellsChain, TellsOneOf, chain_text, leads}
use Rattle.sg_unenclosed.specs.declared.search.Step.{Step}
use Rattle.std.proofs.Common.{refl}

pub tells_chain : (t : Table) (a : Atom) (text : Bytes) (phylum : ℕ) (steps : List Step) → phylum_of t.ops a.op ≡ Some phylum
    → leads t.ops a.list t.root steps phylum ≡ true → text ≡ chain_text t steps a.op → TellsChain t a text
tells_chain t a text phylum steps left lead is = record { phylum = phylum; left = left; steps = steps; lead = lead; is = is }

pub tells_one : (t : Table) (rs : List Atom) (place : Position) (text : Bytes) (k : ℕ) (a : Atom) → k < length rs → a ≡ get_or rs k a
    → a.place.token ≡ place.token → TellsChain t a text → TellsOneOf t rs place text
tells_one t rs place text k a inside is at told = record { number = k; atom = a; here = slice_get_read rs (length rs) k a refl inside is; at = at; told = told }

pub tells_bare : (t : Table) (ds : List Decl) (rs : List Atom) (place : Position) (text : Bytes) → t ≡ names_of ds → rs ≡ atoms t ds
    → TellsOneOf t rs place text → TellsBare ds place text
tells_bare t ds rs place text names are told =
    subst (λ t. TellsOneOf t (atoms t ds) place text) names (subst (λ rs. TellsOneOf t rs place text) are told)
