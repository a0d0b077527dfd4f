-- What a run of `follow` wrote, by the history of the share that it read.
use Rattle.std.specs.Prelude.{◌≡◌, ◌≤◌, ◌<◌, ⊤, ℕ, ◌+◌, List, [], ◌∷◌, ◌++◌, length, Option, Some, true}
use Rattle.std.specs.List.{slice_get}
use Rattle.item_model.specs.declared.changes.Edit.{Edit}
use Rattle.item_model.specs.declared.changes.Entry.{Entry}
use Rattle.item_model.specs.declared.changes.Entry.TheVariants.{Login}
use Rattle.item_model.specs.declared.query.Query.{Query}
use Rattle.item_model.specs.declared.request.Meta.{Meta}
use Rattle.item_model.specs.declared.request.Target.{Target}
use Rattle.share_history.specs.Histories.{batches, revision, up_to}
use Rattle.share_server.specs.declared.report.LinkReport.{LinkReport}
use Rattle.share_server.specs.declared.report.Served.{Served}
use Rattle.share_server.specs.Served.{at_point}
use Rattle.command_core.specs.declared.fault.Fault.{Fault}
use Rattle.command_core.specs.Endings.{IsWritten}
use Rattle.command_core.specs.Faults.{fault_line, fault_status}
use Rattle.command_core.specs.Seen.{OutputSeen}
use Rattle.link_commands.specs.declared.follow.FollowFault.{FollowFault}
use Rattle.link_commands.specs.FollowShare.{follow_line, follow_status}
use Rattle.link_commands.specs.Looks.{AsksQuery, meta_or_default}
use Rattle.link_commands.specs.Meanings.{IsCutBehind}
use Rattle.share_meetings.specs.Links.{IsReport}
use Rattle.share_meetings.specs.Texts.{follow_text, last_of, line_at, lines_at, rows_text}

-- each revision is above the one before, and none above the last of the share
abbrev pub AreRising : (base last : ℕ) → List ℕ → Type 0
AreRising base last [] = ⊤
AreRising base last (v ∷ vs) = (base < v) × (v ≤ last) × AreRising v last vs

-- a request on the connection made the login, at a revision that is not above `v`
pub record IsAfterLogin (report : LinkReport) (h : List Entry) (v : ℕ) : Type 0 where
  pub login : Served
  pub is_report : IsReport login report.served
  pub added : login.added ≡ true
  pub session : ℕ
  pub before : List Entry
  pub entered : at_point h login ≡ before ++ Login report.number session ∷ []
  pub since : revision (batches before) ≤ v

-- the first revision is, and so is each later one
abbrev pub AreAfterLogin : LinkReport → List Entry → List ℕ → Type 0
AreAfterLogin report h [] = ⊤
AreAfterLogin report h (v ∷ vs) = IsAfterLogin report h v

-- The answer to the request behind this one of the connection, counted from 0, was made at the revision, and that to this
-- one at none above it.
pub record IsAnsweredBehind (report : LinkReport) (h : List Entry) (number v : ℕ) : Type 0 where
  pub one : Served
  pub is_there : slice_get report.served (number + 1) ≡ Some one
  pub at : v ≡ revision (batches (at_point h one))
  pub before : Served
  pub is_before : slice_get report.served number ≡ Some before
  pub since : revision (batches (at_point h before)) ≤ v

-- so are the others, each behind one more request
abbrev pub AreAnsweredBehind : LinkReport → List Entry → (number : ℕ) → List ℕ → Type 0
AreAnsweredBehind report h number [] = ⊤
AreAnsweredBehind report h number (v ∷ vs) = IsAnsweredBehind report h number v × AreAnsweredBehind report h (number + 2) vs

-- What was written of some revisions, and the status. After all lines there is one for each round.
pub data Wrote (keep rounds : ℕ) (target : Target) (query : Option Query) (meta : Meta) (bs : List (List Edit)) (revisions : List ℕ) (before after : OutputSeen) : ℕ → Type 0 where
  -- their text
  all : length revisions ≡ rounds → IsWritten before after (follow_text keep target query meta bs revisions) → Wrote keep rounds target query meta bs revisions before after 0
  -- their lines, and then the output failed in the rows
  cut_rows : length revisions ≡ rounds → IsCutBehind before after (lines_at keep target query meta bs 0 revisions) (rows_text target query meta bs revisions)
      → Wrote keep rounds target query meta bs revisions before after 5
  -- the lines of all but the last, and then the output failed in that of the last
  cut_line : (earlier : List ℕ) (v : ℕ) → revisions ≡ earlier ++ v ∷ []
      → IsCutBehind before after (lines_at keep target query meta bs 0 earlier) (line_at keep target query meta (last_of 0 earlier) (up_to bs v))
      → Wrote keep rounds target query meta bs revisions before after 5
  -- their lines and then that of an error, with its status
  refused : (fault : Fault FollowFault) → IsWritten before after (lines_at keep target query meta bs 0 revisions ++ fault_line follow_line fault)
      → Wrote keep rounds target query meta bs revisions before after (fault_status follow_status fault)
  -- their lines, and then the output failed in that of an error
  refused_cut : (fault : Fault FollowFault) → IsCutBehind before after (lines_at keep target query meta bs 0 revisions) (fault_line follow_line fault)
      → Wrote keep rounds target query meta bs revisions before after 5

-- There are revisions of the history, each above the one before, none from before the login, at most `rounds`, and this
-- was written of them. They are those at which the listings on the connection were answered: the first behind the login,
-- which is request 1, and each other one behind an update. So none is below the one that its update told. With status 0
-- all of their text was written, and they are as many as the rounds.
pub record Shows (keep : ℕ) (report : LinkReport) (h : List Entry) (rounds : ℕ) (target : Target) (query : Option Query) (meta : Meta) (before after : OutputSeen) (status : ℕ) : Type 0 where
  pub revisions : List ℕ
  pub rising : AreRising 0 (revision (batches h)) revisions
  pub fresh : AreAfterLogin report h revisions
  pub answered : AreAnsweredBehind report h 1 revisions
  pub few : length revisions ≤ rounds
  pub wrote : Wrote keep rounds target query meta (batches h) revisions before after status
  pub all_rounds : status ≡ 0 → length revisions ≡ rounds

-- the same for what the texts of `--query` and `--meta` select
pub record ShowsAsked (keep : ℕ) (report : LinkReport) (h : List Entry) (rounds : ℕ) (target : Target) (query meta : Option (List ℕ)) (before after : OutputSeen) (status : ℕ) : Type 0 where
  pub asked : Option Query
  pub shown : Meta
  pub query_is : AsksQuery query asked
  pub meta_is : meta_or_default meta ≡ Some shown
  pub shows : Shows keep report h rounds target asked shown before after status
