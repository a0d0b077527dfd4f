-- The texts of `--query` and `--meta` are refused, or they select one mirror.
use Rattle.std.proofs.Common.{◌≡◌, ◌≢◌, ℕ, List, Option, Some, None, Result, Ok, refl, sym, ap, ◌∙◌}
use Rattle.item_model.specs.declared.query.Query.{Query as query_type}
use Rattle.item_model.specs.declared.refusal.QueryError.{QueryError}
use Rattle.item_model.specs.declared.refusal.QueryError.TheVariants as query_error
use Rattle.item_model.specs.declared.request.Meta.{Meta as meta_type}
use Rattle.item_model.specs.declared.request.Target.{Target}
use Rattle.song_query.proofs.Once.{answers_once, one_answer}
use Rattle.mirror_core.specs.Mirrored.{Mirrored}
use Rattle.link_commands.specs.Looks.{AsksMirror, AsksQuery, HasRefusal, mirror_of}

pub read_or_refused : (text : Option (List ℕ)) (asked : Option query_type) (error : QueryError) → error ≢ query_error.Memory → AsksQuery text asked → HasRefusal text error → ⊥
read_or_refused None asked error cause reads refused = refused
read_or_refused (Some text) None error cause reads refused = reads
read_or_refused (Some text) (Some asked) error cause reads refused = answers_once text asked error cause reads refused

one_query : (text : Option (List ℕ)) (a b : Option query_type) → AsksQuery text a → AsksQuery text b → a ≡ b
one_query None None None asks other = refl
one_query None None (Some q) asks other = absurd other
one_query None (Some p) b asks other = absurd asks
one_query (Some text) None b asks other = absurd asks
one_query (Some text) (Some p) None asks other = absurd other
one_query (Some text) (Some p) (Some q) asks other =
    let same : ◌≡◌ {A = Result query_type QueryError} (Ok p) (Ok q) = one_answer text (Ok p) (Ok q) (λ bad. cc bad) (λ bad. cc bad) asks other in cc

pub one_mirror : (query meta : Option (List ℕ)) (target : Target) (a b : Mirrored) → AsksMirror query meta target a → AsksMirror query meta target b → a ≡ b
one_mirror query meta target a b asks other =
    let queries : asks.asked ≡ other.asked = one_query query asks.asked other.asked asks.query_is other.query_is in
    let metas : asks.shown ≡ other.shown = (let both : Some asks.shown ≡ Some other.shown = sym asks.meta_is ∙ other.meta_is in cc) in
    asks.is ∙ ap (λ (q : Option query_type). mirror_of target q asks.shown) queries ∙ ap (λ (shown : meta_type). mirror_of target other.asked shown) metas ∙ sym other.is
