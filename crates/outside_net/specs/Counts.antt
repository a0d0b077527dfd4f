-- The error counter of each object, as `outside_disks` defines it.
pub use Rattle.outside_disks.specs.Counts.{Rose, CountsFaults, RisesWith}
