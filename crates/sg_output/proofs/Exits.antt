-- An exit by an error
use Rattle.std.proofs.Common.{◌≡◌, Result, Ok, Err, IfErr, IsErrAnd, IsErrOf, sym, subst, refl}
use Rattle.sg_outside.specs.declared.sink.SinkError.{SinkError}
use Rattle.sg_outside.specs.declared.sink.SinkError.TheVariants.{Failed, NoMemory}
use Rattle.sg_output.specs.declared.status.Status.{Status}
use Rattle.sg_output.specs.declared.status.Status.TheVariants.{Memory, SinkFault}
use Rattle.sg_output.specs.Statuses.{IsCut, sink_status, ended}

-- the error is this status
pub exits : {T : Type 0} (Q : Status → Type 0) (status : Status) (r : Result T Status) → IsErrAnd r (λ s. s ≡ status) → Q status → IfErr r Q
exits Q status (Ok x) e q = tt
exits Q status (Err s) e q = subst Q (sym e) q

pub ended_is : (status : Status) (r : Result (Unit {0}) Status) → IsErrAnd r (λ s. s ≡ status) → ended r ≡ status
ended_is status (Ok x) e = absurd e
ended_is status (Err s) e = e

pub is_cut : (e : SinkError) → IsCut (sink_status e)
is_cut Failed = tt
is_cut NoMemory = tt

-- what a put says of want of memory and of a fault, by the status
pub memory_of : (e : SinkError) (P : Type 0) → (IsErrOf {T = Unit {0}} (Err e) NoMemory → P) → sink_status e ≡ Memory → P
memory_of Failed P h is = cc
memory_of NoMemory P h is = h refl

pub fault_of : (e : SinkError) (P : Type 0) → (IsErrOf {T = Unit {0}} (Err e) Failed → P) → sink_status e ≡ SinkFault → P
fault_of Failed P h is = h refl
fault_of NoMemory P h is = cc
