-- What a page is about, as contracts have it.
use Rattle.casebook_page.specs.Told.{ContentsValue}
use Rattle.casebook_page.specs.declared.contents.Contents.{Contents}

abbrev pub contents_view : Contents → ContentsValue
contents_view contents = record {
  source = contents.case.now.source;
  recording = contents.case.now.recording;
  repair = contents.case.now.repair;
  summary = contents.summary.now;
  labels = contents.labels.now;
  title = contents.title.now;
  shows_all = contents.shows_all;
}
