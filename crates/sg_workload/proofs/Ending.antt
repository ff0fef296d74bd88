-- A workload that was performed, or a part of it, and its line.
use Rattle.std.specs.Prelude.{◌≡◌, ℕ, ◌+◌, ◌-◌, List, Vec, Result, Ok, Err, IfOk, IfErr, OnOk, OnErr, IsErrAnd, ◌≢◌}
use Rattle.std.proofs.Common.{sym, ap, ◌∙◌, subst, arith, Global}
use Rattle.sg_kinds.specs.Values.{Bytes}
use Rattle.sg_kinds.specs.declared.spec.Spec.{Spec}
use Rattle.sg_kinds.specs.declared.fault.SpecFault.{SpecFault}
use Rattle.sg_kinds.specs.declared.fault.SpecFault.TheVariants.{NoMemory}
use Rattle.sg_load.specs.Only.{IsTheVerdict}
use Rattle.sg_load.specs.Verdict.{Verdict, IsVerdict}
use Rattle.sg_load.specs.Verdict.Verdict.{Refused, Accepted}
use Rattle.sg_script.specs.declared.command.Command.{Command}
use Rattle.sg_workload.specs.Workload.{workload}
use Rattle.sg_editor.specs.Session.{Session, start}
use Rattle.sg_editor.specs.Ask.{Readers}
use Rattle.sg_editor.specs.Editing.{Setting}
use Rattle.sg_workload.specs.Loads.{Played, played, worked, work, work_line, line_of, nodes_in, errors_in, window_height}
use Rattle.sg_workload.specs.Performed.{ArePerformed, AreCut}

-- a fact, whatever was answered
pub on_ok : {A E P : Type 0} → (r : Result A E) → P → OnOk r P
on_ok (Ok a) p = p
on_ok (Err e) p = tt

pub on_err : {A E P : Type 0} → (r : Result A E) → P → OnErr r P
on_err (Ok a) p = tt
on_err (Err e) p = p

-- a line that was not told, and why
abbrev pub Line : Type 0
Line = Result (Vec ℕ Global) SpecFault

pub no_line : (P : Vec ℕ Global → Type 0) (f : SpecFault) (r : Line) → IsErrAnd r (λ x. x ≡ f) → IfOk r P
no_line P f (Ok a) e = absurd e
no_line P f (Err x) e = tt

pub fault_is : (Q : SpecFault → Type 0) (f : SpecFault) (r : Line) → IsErrAnd r (λ x. x ≡ f) → Q f → IfErr r Q
fault_is Q f (Ok a) e q = absurd e
fault_is Q f (Err x) e q = subst Q (sym e) q

pub memory_alone : (Q : SpecFault → Type 0) (r : Line) → IsErrAnd r (λ f. f ≡ NoMemory) → IfErr r (λ f. f ≢ NoMemory → Q f)
memory_alone Q (Ok a) e = absurd e
memory_alone Q (Err f) e = λ other. absurd (other e)

-- nothing was evaluated, and all was
pub cut_before : (p : Played) (before now : ℕ) → now ≡ before → AreCut p before now
cut_before p before now same = record { least = omega (arith, same); most = omega (arith, same) }

pub cut_behind : (p : Played) (s : Session) (before now : ℕ) → ArePerformed p s before now → AreCut p before now
cut_behind p s before now done = let e = done.evaluated in record { least = omega (arith, e); most = omega (arith, e) }

-- the commands of a workload in an editor of their own
module _ (spec : Spec) (height : ℕ) (r : Readers) (s : Session) (cs : List Command) (n : ℕ) (window : height ≡ window_height) (first : s ≡ start) (are : cs ≡ workload n) where
  same_played : played spec height r s cs ≡ worked spec r n
  unfolding worked
  same_played =
      ap (λ (h : ℕ). played spec h r s cs) window ∙ ap (λ (x : Session). played spec window_height r x cs) first
      ∙ ap (played spec window_height r start) are

  pub all_performed : (s' : Session) (before now : ℕ) → ArePerformed (played spec height r s cs) s' before now → ArePerformed (worked spec r n) s' before now
  all_performed s' before now done = subst (λ (p : Played). ArePerformed p s' before now) same_played done

  pub all_cut : (before now : ℕ) → AreCut (played spec height r s cs) before now → AreCut (worked spec r n) before now
  all_cut before now cut = subst (λ (p : Played). AreCut p before now) same_played cut

-- how much was evaluated, and the line that is told then
pub work_counted : (spec : Spec) (r : Readers) (n : ℕ) (s : Session) (before now : ℕ) → ArePerformed (worked spec r n) s before now → now ≡ before + work spec r n
work_counted spec r n s before now done = done.evaluated

pub line_told : (spec : Spec) (r : Readers) (n : ℕ) (s : Session) (before now nodes : ℕ) (errors : Bytes) (evaluated : ℕ) → ArePerformed (worked spec r n) s before now
    → nodes ≡ nodes_in s → errors ≡ errors_in spec s → evaluated ≡ now - before → line_of n nodes errors evaluated ≡ work_line spec r n
line_told spec r n s before now nodes errors evaluated done counts reads evs =
    let e = done.evaluated in
    let all : evaluated ≡ work spec r n = omega (arith, e, evs) in
    ap (λ (k : ℕ). line_of n k errors evaluated) (counts ∙ ap nodes_in done.session)
    ∙ ap (λ (b : Bytes). line_of n (nodes_in (worked spec r n).session) b evaluated) (reads ∙ ap (errors_in spec) done.session)
    ∙ ap (line_of n (nodes_in (worked spec r n).session) (errors_in spec (worked spec r n).session)) all

-- what is read of a session, by an editor of the same setting
pub reads_at : (a b : Setting) (s : Session) (errors : Bytes) → b ≡ a → errors ≡ errors_in b.contents.spec s → errors ≡ errors_in a.contents.spec s
reads_at a b s errors same reads = reads ∙ ap (λ (z : Setting). errors_in z.contents.spec s) same

-- there is one specification of a text that is accepted
its_spec : Spec → Verdict → Spec
its_spec spec (Refused f) = spec
its_spec spec (Accepted s) = s

pub one_spec : (bytes text : Bytes) (spec other : Spec) → bytes ≡ text → IsTheVerdict bytes (Accepted spec) → IsVerdict text (Accepted other) → other ≡ spec
unfolding its_spec
one_spec bytes text spec other same the is =
    ap (its_spec spec) (the.only (Accepted other) (subst (λ (b : Bytes). IsVerdict b (Accepted other)) (sym same) is))

pub the_lines : (bytes text : Bytes) (v : Verdict) → bytes ≡ text → IsTheVerdict bytes v → IsTheVerdict text v
the_lines bytes text v same the = subst (λ (b : Bytes). IsTheVerdict b v) same the
