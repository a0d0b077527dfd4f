use Rattle.std.proofs.Common.{refl, ap, ◌∙◌, ◌++◌}
use Rattle.std.specs.Char.{encode_utf8}
use Rattle.song_query.proofs.Wide.{valued_taken, slashed_taken, wide_refused}
use Rattle.song_query.proofs.parts.Reader.take_wide.Goals as goal

pub returns-in_ok-push-in-Valued : goal.returns-in_ok-push-in-Valued
returns-in_ok-push-in-Valued c =
    valued_taken _ _ _ _ _ _ c.requires c.in-Valued.is refl refl refl c.in_ok-push-in-Valued.ensures.bytes

pub returns-in_ok-push-in-Slashed-2 : goal.returns-in_ok-push-in-Slashed-2
returns-in_ok-push-in-Slashed-2 c =
    slashed_taken _ _ c.args.self.now.partial (record c.args.self.now.partial { piece = c.push-in-Slashed-2.new.self }) _ _ c.requires c.in-Slashed.is refl refl refl
    (c.in_ok-push-in-Slashed-2.ensures.bytes ∙ ap (λ s. s ++ encode_utf8 c.args.c) c.in_ok-push-in-Slashed.ensures.bytes)

pub returns-in_default : goal.returns-in_default
returns-in_default c = wide_refused _ _ _ _ _ c.requires c.in_default.not-Valued c.in_default.not-Slashed
