use Rattle.std.proofs.Common.{refl}
use Rattle.dmap_show.proofs.values.word.Goals as goal

pub returns-in-U8 : goal.returns-in-U8
returns-in-U8 c = λ f. rw c.in-U8.is refl

pub returns-in-I8 : goal.returns-in-I8
returns-in-I8 c = λ f. rw c.in-I8.is refl

pub returns-in-U16 : goal.returns-in-U16
returns-in-U16 c = λ f. rw c.in-U16.is refl

pub returns-in-I16 : goal.returns-in-I16
returns-in-I16 c = λ f. rw c.in-I16.is refl

pub returns-in-U32 : goal.returns-in-U32
returns-in-U32 c = λ f. rw c.in-U32.is refl

pub returns-in-I32 : goal.returns-in-I32
returns-in-I32 c = λ f. rw c.in-I32.is refl

pub returns-in-U64 : goal.returns-in-U64
returns-in-U64 c = λ f. rw c.in-U64.is refl

pub returns-in-I64 : goal.returns-in-I64
returns-in-I64 c = λ f. rw c.in-I64.is refl

pub returns-in-Text : goal.returns-in-Text
returns-in-Text c = λ f. rw c.in-Text.is refl

pub returns-in-Date : goal.returns-in-Date
returns-in-Date c = λ f. rw c.in-Date.is refl

pub returns-in-Version : goal.returns-in-Version
returns-in-Version c = λ f. rw c.in-Version.is refl

pub returns-in-List : goal.returns-in-List
returns-in-List c = λ f. rw c.in-List.is refl

pub returns-in-Opaque : goal.returns-in-Opaque
returns-in-Opaque c = λ f. rw c.in-Opaque.is refl
