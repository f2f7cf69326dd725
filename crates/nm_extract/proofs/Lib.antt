mod DigestLemmas
mod HtmlLaws
mod HtmlLemmas
mod LinkLaws
mod LinkLemmas
mod ListLemmas
mod PartFactLemmas
