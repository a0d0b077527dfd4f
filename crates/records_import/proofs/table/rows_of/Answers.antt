use Rattle.std.proofs.Common.{Bor, List, ℕ, ◌≡◌, ◌≤◌, ◌+◌, ◌∙◌, sym, refl, inl, inr, map, length, Some, ◌∷◌, [], arith}
use Rattle.std.proofs.lemmas.List.{length-append, length-map, map-append}
use Rattle.csv.specs.Reading.{Reached, default_config, reader_state, strip_bom}
use Rattle.csv.specs.Records.{fields_of}
use Rattle.csv.specs.declared.parser.State.TheVariants as st
use Rattle.csv.proofs.ReadFacts.{rows-end, rows-more}
use Rattle.records_import.proofs.Rows.{few_rows, first_rows}
use Rattle.records_import.proofs.table.rows_of.Goals as goal

-- nothing is read yet
pub rows-init : goal.rows-init
unfolding Reached
rows-init c =
    let from = c.from_reader-reader.ensures in
    rw c.new-rows.ensures.items (
      rw (c.flexible.ensures, c.has_headers.ensures) at from.trim ∙ c.new.ensures.trim,
      inr (inr (rw (c.flexible.ensures, c.has_headers.ensures) at from.has_headers, from.headers)),
      rw (c.flexible.ensures, c.has_headers.ensures) at from.config ∙ c.new.ensures.config,
      refl,
      strip_bom c.args.text.now,
      from.source,
      (sym from.state, refl),
    )

-- the record that was read follows those before
pub rows-preserved : goal.rows-preserved
rows-preserved c =
    let inv = c.rows.invariant in
    let read = rw c.in-Ok-true.field-0-test at (c.in-Ok-true.ensures.reads inv.0 inv.1) in
    let more = rows-more (λ (s : Bor (List ℕ)). Some s.now) c.rows.reader c.read_byte_record.new.self (fields_of c.read_byte_record.new.row) default_config st.StartRecord (strip_bom c.args.text.now) inv.4 (map fields_of c.rows.rows.items) inv.2 inv.5 inv.6 read in
    let items = c.in_ok-push_copy-in-Ok-true.ensures in
    let count : length c.push_copy.new.rows.items ≡ c.rows.counter + 1 = rw items (omega (arith, length-append c.rows.rows.items (c.read_byte_record.new.row ∷ []), inv.3)) in (
      read.3 ∙ inv.0,
      inl (c.in-Ok-true.ensures.ready inv.0),
      read.2 ∙ inv.2,
      count,
      more.0,
      more.1,
      rw (items, map-append fields_of c.rows.rows.items (c.read_byte_record.new.row ∷ [])) more.2,
    )

-- the text has no more
pub returns-in-Ok-false : goal.returns-in-Ok-false
returns-in-Ok-false c =
    let inv = c.rows.invariant in
    let read = rw c.in-Ok-false.field-0-test at (c.in-Ok-false.ensures.reads inv.0 inv.1) in
    let few : length (map fields_of c.rows.rows.items) ≤ c.args.most = rw (length-map c.rows.rows.items fields_of) (omega (arith, inv.3, c.rows.auto.counter-end)) in
    few_rows (reader_state c.rows.reader) c.args.text.now inv.4 (map fields_of c.rows.rows.items) c.args.most few inv.6
    (rows-end (λ (s : Bor (List ℕ)). Some s.now) c.rows.reader c.read_byte_record.new.self (fields_of c.read_byte_record.new.row) default_config inv.4 inv.2 inv.5 read)

-- all the rows that were requested
pub returns : goal.returns
returns c =
    let inv = c.rows.invariant in
    let count : length (map fields_of c.rows.rows.items) ≡ c.args.most = rw (length-map c.rows.rows.items fields_of) (omega (arith, inv.3, c.rows-test.false, c.rows.auto.counter-end)) in
    first_rows (reader_state c.rows.reader) c.args.text.now inv.4 (map fields_of c.rows.rows.items) c.args.most count inv.6
