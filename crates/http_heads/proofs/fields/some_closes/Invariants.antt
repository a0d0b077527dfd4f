use Rattle.std.proofs.Common.{◌≡◌, codes, length, map, All}
use Rattle.std.specs.List.{list_any}
use Rattle.httparse.specs.Spans.{header_bytes, IsHeaderWithin}
use Rattle.http_heads.specs.Fields.{values, has_close}
use Rattle.http_heads.proofs.fields.some_closes.Given as goal

-- no value before the rest closes
abbrev pub invariant-loop-value : goal.invariant-loop-value
invariant-loop-value l = record {
  within : All (IsHeaderWithin (length l.bytes)) l.rest;
  same :
      list_any has_close (values (codes "connection") (map (header_bytes l.bytes) l.spans))
      ≡ list_any has_close (values (codes "connection") (map (header_bytes l.bytes) l.rest));
}

abbrev pub decreases-loop-value : goal.decreases-loop-value
decreases-loop-value l = length l.rest
