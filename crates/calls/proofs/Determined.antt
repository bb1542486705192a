-- What the byte entry promises leaves no choice: theorems of crates/entry. Those of the exported functions stand in crates/entry_c.
use Rattle.entry.proofs.Determined.{kernel_step_determined_lem, kernel_start_determined_lem, kernel_convert_determined_lem}
use Rattle.calls.specs.Determined.{KernelStepDetermined, KernelStartDetermined, KernelConvertDetermined}

pub kernel_step_determined : KernelStepDetermined
kernel_step_determined = kernel_step_determined_lem

pub kernel_start_determined : KernelStartDetermined
kernel_start_determined = kernel_start_determined_lem

pub kernel_convert_determined : KernelConvertDetermined
kernel_convert_determined = kernel_convert_determined_lem
