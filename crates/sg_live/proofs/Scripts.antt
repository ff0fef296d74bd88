-- The commands of a text, by its lines
use Rattle.std.proofs.Common.{◌≡◌, ◌≤◌, ℕ, List, [], ◌∷◌, ◌++◌, length, Option, Some, None, Result, Ok, Err, Bool, true, false, if◌then◌else◌, ap, subst, ◌∙◌, arith}
use Rattle.std.specs.Prelude.{nat_lt, slice_get}
use Rattle.std.specs.Io.{StopsAt}
use Rattle.std.specs.Str.Lines.{lines}
use Rattle.sg_script.specs.declared.command.Command.{Command}
use Rattle.sg_script.specs.declared.fault.ScriptFault.{ScriptFault}
use Rattle.sg_script.specs.declared.fault.ScriptFault.TheVariants.{Long, Many}
use Rattle.sg_script.specs.declared.lines.Said.{Said}
use Rattle.sg_script.specs.declared.lines.Said.TheVariants as said
use Rattle.sg_script.specs.Script.{script_of, verdict, fault_in, commands_in, commands_said, meaning_of}
use Rattle.sg_live.proofs.Lines.{one_line}

few : (b : Bool) (commands cs : List Command) (many : ScriptFault) → (if b then Err many else Ok commands) ≡ Ok cs → commands ≡ cs
few true commands cs many e = absurd (cc)
few false commands cs many e = cc

of_verdict : (f : Option ScriptFault) (commands cs : List Command) → verdict f commands ≡ Ok cs → commands ≡ cs
of_verdict None commands cs e = few (nat_lt 10000 (length commands)) commands cs (Many (length commands)) e
of_verdict (Some f) commands cs e = absurd (cc)

of_length : (b : Bool) (r : Result (List Command) ScriptFault) (cs : List Command) → (if b then Err Long else r) ≡ Ok cs → r ≡ Ok cs
of_length true r cs e = absurd (cc)
of_length false r cs e = e

-- the commands of a script are those of its lines
pub commands_of : (bytes : List ℕ) (cs : List Command) → script_of bytes ≡ Ok cs → commands_in (lines bytes) ≡ cs
unfolding script_of
commands_of bytes cs e =
    of_verdict (fault_in (lines bytes)) (commands_in (lines bytes)) cs (of_length (nat_lt 1048576 (length bytes)) (verdict (fault_in (lines bytes)) (commands_in (lines bytes))) cs e)

at_most_one : (s : Said) → length (commands_said s ++ []) ≤ 1
at_most_one said.Nothing = omega arith
at_most_one (said.Command c) = omega arith
at_most_one said.Unknown = omega arith

few_lines : (ls : List (List ℕ)) → length ls ≤ 1 → length (commands_in ls) ≤ 1
few_lines [] h = omega arith
few_lines (x ∷ []) h = at_most_one (meaning_of x)
few_lines (x ∷ y ∷ ls) h = absurd (omega arith)

pub one_command : (line : List ℕ) (cs : List Command) → StopsAt line 10 → script_of line ≡ Ok cs → length cs ≤ 1
one_command line cs stops e = subst (λ (l : List Command). length l ≤ 1) (commands_of line cs e) (few_lines (lines line) (one_line line stops))

-- so where there is a first one, it is the only one
pub only_one : (line : List ℕ) (cs : List Command) (c : Command) → StopsAt line 10 → script_of line ≡ Ok cs → (rest : List Command) → cs ≡ c ∷ rest → script_of line ≡ Ok (c ∷ [])
only_one line cs c stops e [] is = e ∙ ap (λ (l : List Command). Ok l) is
only_one line cs c stops e (x ∷ rest) is =
    let h : length cs ≤ 1 = one_command line cs stops e in
    let long : length (c ∷ x ∷ rest) ≤ 1 = subst (λ (l : List Command). length l ≤ 1) is h in
    absurd (omega arith)

pub first_command : (line : List ℕ) (cs : List Command) (c : Command) → StopsAt line 10 → script_of line ≡ Ok cs → slice_get cs 0 ≡ Some c → script_of line ≡ Ok (c ∷ [])
first_command line [] c stops e first = absurd (cc)
first_command line (x ∷ rest) c stops e first =
    let same : x ≡ c = cc in
    only_one line (x ∷ rest) c stops e rest (ap (λ (y : Command). y ∷ rest) same)

pub no_command : (line : List ℕ) (cs : List Command) → script_of line ≡ Ok cs → slice_get cs 0 ≡ None → script_of line ≡ Ok []
no_command line [] e nothing = e
no_command line (x ∷ rest) e nothing = absurd (cc)
