-- How a result reports the first fault of a part.
use Rattle.std.specs.Prelude.{◌≡◌, Option, Some, None, Result, Ok, Err}
use Rattle.bc_scope_names.specs.declared.error.ScopeError.{ScopeError}
use Rattle.bc_scope_names.specs.declared.error.ScopeError.TheVariants as code
use Rattle.bc_scope_defs.specs.Faults.{Fault, AnUndeclared, ADeclaredTwice, ADynamicFree, ANotConstant, AGlobalNumber, ANotAssignable, AMisplaced, AFrameTooLarge, ACaseTwice, ATooManyPlaces}

-- the error is this fault, or it is Memory
abbrev pub IsFault : ScopeError → Option Fault → Type 0
IsFault (code.Undeclared n) f = f ≡ Some (AnUndeclared n.now)
IsFault (code.DeclaredTwice n) f = f ≡ Some (ADeclaredTwice n.now)
IsFault (code.DynamicFree n) f = f ≡ Some (ADynamicFree n.now)
IsFault code.NotConstant f = f ≡ Some ANotConstant
IsFault (code.GlobalNumber n) f = f ≡ Some (AGlobalNumber n.now)
IsFault code.NotAssignable f = f ≡ Some ANotAssignable
IsFault code.Misplaced f = f ≡ Some AMisplaced
IsFault code.FrameTooLarge f = f ≡ Some AFrameTooLarge
IsFault code.CaseTwice f = f ≡ Some ACaseTwice
IsFault code.TooManyPlaces f = f ≡ Some ATooManyPlaces
IsFault code.Memory f = Unit {0}

-- without an error there is no fault, and P holds for the result; an error is the fault f, or Memory
abbrev pub Judges : {X : Type 0} → Result X ScopeError → Option Fault → (X → Type 0) → Type 0
Judges (Ok x) f P = (f ≡ None) × P x
Judges (Err e) f P = IsFault e f

-- without an error there is no fault; an error is the fault f, or Memory
abbrev pub Passes : {X : Type 0} → Result X ScopeError → Option Fault → Type 0
Passes (Ok x) f = f ≡ None
Passes (Err e) f = IsFault e f
