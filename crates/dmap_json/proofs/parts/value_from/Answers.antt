-- Each kind has its own function.
use Rattle.dmap_json.proofs.parts.value_from.Goals as goal

pub returns-in-U8 : goal.returns-in-U8
returns-in-U8 c = rw c.in-U8.is c.u8_from.ensures

pub returns-in-I8 : goal.returns-in-I8
returns-in-I8 c = rw c.in-I8.is c.i8_from.ensures

pub returns-in-U16 : goal.returns-in-U16
returns-in-U16 c = rw c.in-U16.is c.u16_from.ensures

pub returns-in-I16 : goal.returns-in-I16
returns-in-I16 c = rw c.in-I16.is c.i16_from.ensures

pub returns-in-U32 : goal.returns-in-U32
returns-in-U32 c = rw c.in-U32.is c.u32_value.ensures

pub returns-in-I32 : goal.returns-in-I32
returns-in-I32 c = rw c.in-I32.is c.i32_from.ensures

pub returns-in-U64 : goal.returns-in-U64
returns-in-U64 c = rw c.in-U64.is c.u64_from.ensures

pub returns-in-I64 : goal.returns-in-I64
returns-in-I64 c = rw c.in-I64.is c.i64_from.ensures

pub returns-in-Text : goal.returns-in-Text
returns-in-Text c = rw c.in-Text.is c.text_from.ensures

pub returns-in-Date : goal.returns-in-Date
returns-in-Date c = rw c.in-Date.is c.date_from.ensures

pub returns-in-Version : goal.returns-in-Version
returns-in-Version c = rw c.in-Version.is c.version_from.ensures

pub returns-in-Opaque : goal.returns-in-Opaque
returns-in-Opaque c = rw c.in-Opaque.is c.opaque_from.ensures
