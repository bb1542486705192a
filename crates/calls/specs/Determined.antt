-- The byte entry leaves no choice: the promises of `kernel_step`, `kernel_start` and `kernel_convert`, as the prover reads them from the
-- `ensures` in entry/src/lib.rt (`Post`), allow one verdict and one content of the bytes that are lent to be written (`Determines` in
-- tid/specs/Determined.antt). Each is a statement; proofs/Determined.antt proves it under the same name in small letters. What a host
-- calls are the functions of entry_c, of the same names and clauses: entry_c/proofs/Determined.antt proves the same of theirs.
-- Ruled out: a promise that says nothing of the areas, or of the answer at a refusal, so that any bytes there would keep it.
use Rattle.std.specs.Prelude.{ℕ, List}
use Rattle.tid.specs.Determined.{Determines}
use Rattle.entry.proofs.kernel_step.Reads as kernel_step
use Rattle.entry.proofs.kernel_start.Reads as kernel_start
use Rattle.entry.proofs.kernel_convert.Reads as kernel_convert

-- the image, the areas and the answer
abbrev pub Three : Type 0
Three = List ℕ × List ℕ × List ℕ

-- `kernel_step`: seen are the image, the areas and the answer at exit; the request is only read
abbrev pub KernelStepDetermined : Type 0
KernelStepDetermined =
    (κs : _) (a : _) → Determines {E = Three} (kernel_step.Post κs a) (λ s. (s.1.0.now, s.1.1.0.now, s.1.1.1.1.0.now))

-- `kernel_start`: seen is the image at exit
abbrev pub KernelStartDetermined : Type 0
KernelStartDetermined = (κs : _) (a : _) → Determines (kernel_start.Post κs a) (λ s. s.1.1.1.0.now)

-- `kernel_convert`: seen is `out` at exit; the image is only read
abbrev pub KernelConvertDetermined : Type 0
KernelConvertDetermined = (κs : _) (a : _) → Determines (kernel_convert.Post κs a) (λ s. s.1.1.0.now)
