-- The error of a call that increased an error counter, as `outside_disks` declares it.
pub use Rattle.outside_disks.specs.declared.faulted.Failed.{Failed}
