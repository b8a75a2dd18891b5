-- Both arithmetics are semirings.
use Rattle.std.specs.Prelude.{ℕ, zero, suc}
use Rattle.theory.specs.Semiring.{Laws, Semiring}
use Rattle.theory.specs.Arithmetic.{arithmetic}
use Rattle.theory.proofs.Modular.{modular_laws}
use Rattle.theory.proofs.MaxPlus.{max_plus_laws}

pub laws : (a : ℕ) → Laws (arithmetic a)
laws zero = modular_laws
laws (suc a) = max_plus_laws

abbrev pub semiring : ℕ → Semiring
semiring a = record { operations = arithmetic a; laws = laws a }
