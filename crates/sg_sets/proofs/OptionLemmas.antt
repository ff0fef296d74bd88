-- Lemmas on what holds of one answer.
use Rattle.std.proofs.Common.{refl}
use Rattle.std.specs.Prelude.{Option, None, Some, IfNone, IfSome, IsSome, Bool, true, false}
use Rattle.std.specs.Bool.{OnTrue, OnFalse}

pub IfNone-weaker : {A : Type 0} (r : Option A) (P Q : Type 0) → (P → Q) → IfNone r P → IfNone r Q
IfNone-weaker None P Q f h = f h
IfNone-weaker (Some x) P Q f h = tt

pub IfSome-weaker : {A : Type 0} (r : Option A) (P Q : A → Type 0) → ((x : A) → P x → Q x) → IfSome r P → IfSome r Q
IfSome-weaker None P Q f h = tt
IfSome-weaker (Some x) P Q f h = f x h

pub OnTrue-weaker : (b : Bool) (P Q : Type 0) → (P → Q) → OnTrue b P → OnTrue b Q
OnTrue-weaker true P Q f h = f h
OnTrue-weaker false P Q f h = tt

pub OnFalse-weaker : (b : Bool) (P Q : Type 0) → (P → Q) → OnFalse b P → OnFalse b Q
OnFalse-weaker true P Q f h = tt
OnFalse-weaker false P Q f h = f h

pub IsSome-unless : {A : Type 0} (r : Option A) (P : Type 0) → IfNone r P → ¬ P → IsSome r
IsSome-unless None P h out = absurd (out h)
IsSome-unless (Some x) P h out = refl
