-- What an Ok result has, from what else it has.
use Rattle.std.proofs.Common.{Result, Ok, Err}
use Rattle.std.specs.Prelude.{IfOk}

pub if_ok : {T E : Type 0} (r : Result T E) (P Q : T → Type 0) → ((t : T) → P t → Q t) → IfOk r P → IfOk r Q
if_ok (Ok t) P Q f h = f t h
if_ok (Err e) P Q f h = tt

pub if_ok_both : {T E : Type 0} (r : Result T E) (P P' Q : T → Type 0) → ((t : T) → P t → P' t → Q t) → IfOk r P → IfOk r P' → IfOk r Q
if_ok_both (Ok t) P P' Q f h h' = f t h h'
if_ok_both (Err e) P P' Q f h h' = tt
