-- Devices that take bytes.
use Rattle.std.specs.Prelude.{ℕ}
use Rattle.srm_report.specs.declared.outlet.WriteOutlet.{WriteOutlet}

-- the writer under an outlet
abbrev pub writer_under : {W : Type 0} → WriteOutlet W → W
writer_under o = o.writer

-- how often the writer under an outlet answered an error, or took nothing of a piece that was not empty
abbrev pub writer_failures : {W : Type 0} → WriteOutlet W → ℕ
writer_failures o = o.failures
