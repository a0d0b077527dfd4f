use Rattle.std.proofs.Common.{◌≡◌, ◌≤◌, length, map, All}
use Rattle.httparse.specs.Spans.{header_bytes, IsHeaderWithin}
use Rattle.http_heads.specs.Fields.{values}
use Rattle.http_heads.proofs.fields.next_named.Given as goal

-- no field with the name precedes the rest
abbrev pub invariant-loop-rest : goal.invariant-loop-rest
invariant-loop-rest l = record {
  within : All (IsHeaderWithin (length l.bytes)) l.rest;
  same : values l.name (map (header_bytes l.bytes) l.spans) ≡ values l.name (map (header_bytes l.bytes) l.rest);
  fewer : length l.rest ≤ length l.spans;
}

abbrev pub decreases-loop-rest : goal.decreases-loop-rest
decreases-loop-rest l = length l.rest
